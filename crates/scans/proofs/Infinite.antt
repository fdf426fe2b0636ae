-- From an infinite half: only a hyperedge without targets gives anything, and no cover edge holds. Assumes nothing.
use Prim.Native.Nat.{ℕ, ◌+◌, ◌-◌, ◌<◌, ◌≤◌}
use mathlib.Core.List.{List}
use mathlib.Core.Bool.{true, false, cond, ◌&&◌}
use mathlib.Core.Path.{◌≡◌, refl, sym, ap, ◌∙◌}
use lib.Dec.{eqb}
use Rattle.lists.specs.Lists.{◌∈◌, any}
use Rattle.lists.proofs.Lists.{any_true}
use Rattle.lists.proofs.Tests.{by_test, clash, and_right}
use Rattle.value.specs.declared.Bound.{Bound}
use Rattle.value.specs.declared.Bound.TheVariants.{Within, Unbounded}
use lib.ListN.{get_or, set}
use lib.Seq.{set-get_or}
use native.Mathlib.Omega.{arith}
use Rattle.value.specs.Value.{Value, inf, plus, greatest, meets}
use Rattle.value.specs.Stored.{stored, infinite}
use Rattle.value.proofs.Stored.{meaning_infinite}
use Rattle.wire.specs.Bytes.{number}
use Rattle.wire.specs.Layout.{items, end, Sound}
use Rattle.wire.proofs.Layouts.{items_more, sound_more}
use Rattle.rules.specs.Graph.{Target, Cover}
use Rattle.rules.specs.Rounds.{Assignment, cover_holds, covered, worst}
use Rattle.graph.specs.Format.{target_count_at, hyper_width, node_at, target_width, cover_target_at}
use Rattle.graph.specs.Layouts.{target_layout, cover_layout, HyperOk}
use Rattle.halves.specs.Held.{held}
use Rattle.halves.specs.Room.{half}
use Rattle.scans.specs.Scan.{hyper_in, Done}
use Rattle.halves.proofs.Room.{half_at}
use Rattle.wire.proofs.Parts.{∈-items, sound_at}

module _ (s : List ℕ) (n at : ℕ) (b : List ℕ) where
  pub first_none : number 2 s (at + target_count_at) ≡ 0 → hyper_in s n 0 n at b ≡ set b (n + number 2 s at) 0
  unfolding worst items stored
  first_none e =
      let j = n + number 2 s at in
      let zero = ap (λ (k : ℕ). stored (worst (held (half n 0 b)) (items (target_layout s n) k (at + hyper_width)))) e in
      ap (set b j) (omega (arith, zero))

  pub first_some : HyperOk s n at → 0 < number 2 s (at + target_count_at) → ((v : ℕ) → v < n → get_or b v 0 ≡ infinite) → ((v : ℕ) → get_or b v 0 ≤ infinite) → hyper_in s n 0 n at b ≡ b
  unfolding worst stored
  first_some ok h all fits =
      let j = n + number 2 s at in
      let T = target_layout s n in
      let x = held (half n 0 b) in
      let k = number 2 s (at + target_count_at) in
      let v = number 2 s (at + hyper_width + node_at) in
      let named : v < n = (sound_more T h ok.sound).0.named in
      let same : 0 + v ≡ v = omega arith in
      let is : x v ≡ inf = meaning_infinite (half_at n 0 b v named ∙ ap (λ (u : ℕ). get_or b u 0) same ∙ all v named) in
      let value : stored (worst x (items T k (at + hyper_width))) ≡ infinite =
      ap (λ (ts : List Target). stored (worst x ts)) (items_more T k (at + hyper_width) h)
      ∙ ap (λ (a : Value). stored (greatest (plus (number 4 s (at + hyper_width)) a) (worst x (items T (k - 1) (at + hyper_width + target_width))))) is in
      ap (set b j) (omega (arith, value, fits j)) ∙ set-get_or b j 0

meets_inf : (b : Bound) → meets b inf ≡ false
meets_inf (Within k) = refl
meets_inf Unbounded = refl

covered_infinite : (x : Assignment) (v : ℕ) (cs : List Cover) → ((c : Cover) → c ∈ cs → x c.target ≡ inf) → covered x v cs ≡ false
unfolding covered
covered_infinite x v cs all = by_test (any (λ c. eqb c.source v && cover_holds x c) cs) some (λ e. e)
  where
    some : any (λ c. eqb c.source v && cover_holds x c) cs ≡ true → any (λ c. eqb c.source v && cover_holds x c) cs ≡ false
    some e =
        let r = any_true (λ c. eqb c.source v && cover_holds x c) cs e in
        let held-true = and_right (eqb r.0.source v) (cover_holds x r.0) r.2 in
        clash held-true (ap (meets r.0.bound) (all r.0 r.1) ∙ meets_inf r.0.bound)

-- the cover edges change nothing
pub covers_idle : (s : List ℕ) (n c middle : ℕ) (b : List ℕ) → Sound (cover_layout s n) c middle → ((v : ℕ) → v < n → get_or b v 0 ≡ infinite)
    → Done n 0 n b b (λ v. cond (covered (held (half n 0 b)) v (items (cover_layout s n) c middle)) 0 (get_or b (n + v) 0))
covers_idle s n c middle b sound all = record {
  same_length = refl;
  this = refl;
  past = refl;
  each = λ v l. rw (covered_infinite (held (half n 0 b)) v (items (cover_layout s n) c middle) target_inf);
}
  where
    target_inf : (x : Cover) → x ∈ items (cover_layout s n) c middle → held (half n 0 b) x.target ≡ inf
    target_inf x m =
        let r = ∈-items (cover_layout s n) c middle m in
        let ok = sound_at (cover_layout s n) r.0 r.1 sound in
        let u = number 2 s (end (cover_layout s n) r.0 middle + cover_target_at) in
        let same : 0 + u ≡ u = omega arith in
        ap (λ (y : Cover). held (half n 0 b) y.target) r.2
        ∙ meaning_infinite (half_at n 0 b u ok.target_named ∙ ap (λ (w : ℕ). get_or b w 0) same ∙ all u ok.target_named)

-- a half that was infinite is infinite where it is the same
pub stays_infinite : (n : ℕ) (b₀ b : List ℕ) → half n 0 b ≡ half n 0 b₀ → ((v : ℕ) → v < n → get_or b₀ v 0 ≡ infinite) → (v : ℕ) → v < n → get_or b v 0 ≡ infinite
stays_infinite n b₀ b this was v l =
    let same : 0 + v ≡ v = omega arith in
    (rw same at (sym (half_at n 0 b v l))) ∙ ap (λ (x : List ℕ). get_or x v 0) this ∙ (rw same at (half_at n 0 b₀ v l)) ∙ was v l
