-- A pass over the next round's numbers: a turn that stores one, a turn that stores none. Assumes nothing.
use Prim.Native.Nat.{ℕ, ◌+◌, ◌<◌, ◌≤◌}
use mathlib.Core.List.{List}
use mathlib.Core.Path.{◌≡◌, ap, ◌∙◌}
use mathlib.Core.Logic.{◌≢◌}
use lib.ListN.{length, get_or, set, take, length-set}
use lib.Seq.{take-set-le, drop-set-lt, get_or-set_same, get_or-set_other}
use native.Mathlib.Decide.{ℕ_discrete}
use native.Mathlib.Omega.{arith}
use Rattle.halves.specs.Room.{half}
use Rattle.scans.specs.Scan.{Sides, forth, back, Going}

-- both sides begin within the first n numbers
pub sides_from : {n from to : ℕ} → Sides n from to → from ≤ n
sides_from (forth e f) = omega arith
sides_from (back e f) = omega arith

pub sides_to : {n from to : ℕ} → Sides n from to → to ≤ n
sides_to (forth e f) = omega arith
sides_to (back e f) = omega arith

-- those of the next round stand apart from this one
half_set : {n from to : ℕ} → Sides n from to → (b : List ℕ) (j k : ℕ) → j < n → half n from (set b (to + j) k) ≡ half n from b
half_set {n} {to = to} (forth e f) b j k l = rw e (take-set-le n b (to + j) k (omega arith))
half_set {n} {to = to} (back e f) b j k l = rw e (ap (take n) (drop-set-lt n b (to + j) k (omega arith)))

module _ {n from to : ℕ} {b₀ b : List ℕ} {left left' : ℕ → ℕ → ℕ} {all : ℕ → ℕ} (g : Going n from to b₀ b left all) where
  -- a turn that stores nothing
  pub going_on : ((v a : ℕ) → v < n → left' v a ≡ left v a) → Going n from to b₀ b left' all
  going_on same = record { same_length = g.same_length; this = g.this; past = g.past; each = λ v h. same v _ h ∙ g.each v h }

  -- a turn that stores the number of one node
  pub going_set : Sides n from to → n + n ≤ length b₀ → (j k : ℕ) → j < n → left' j k ≡ left j (get_or b (to + j) 0)
      → ((v a : ℕ) → ¬ (v ≡ j) → left' v a ≡ left v a) → Going n from to b₀ (set b (to + j) k) left' all
  going_set sides room j k h here there =
      let near = sides_to sides in
      let inside : to + j < length b = omega (arith, g.same_length) in
      record {
        same_length = length-set b (to + j) k ∙ g.same_length;
        this = half_set sides b j k h ∙ g.this;
        past = drop-set-lt (n + n) b (to + j) k (omega arith) ∙ g.past;
        each = λ v hv. at inside v hv (ℕ_discrete v j);
      }
    where
      at : to + j < length b → (v : ℕ) → v < n → Dec (v ≡ j) → left' v (get_or (set b (to + j) k) (to + v) 0) ≡ all v
      at inside v hv (yes e) = rw (e, get_or-set_same b (to + j) k 0 inside) (here ∙ g.each j h)
      at inside v hv (no e) =
          let apart : to + v ≢ to + j = λ q. e (omega arith) in
          rw (get_or-set_other b (to + j) (to + v) k 0 apart) (there v _ e ∙ g.each v hv)
