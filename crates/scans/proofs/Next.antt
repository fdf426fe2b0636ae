-- With the hyperedges, with the cover edges: the round of a part of the graph. Assumes nothing.
use Prim.Native.Nat.{ℕ, ◌+◌, min}
use mathlib.Core.List.{List}
use mathlib.Core.Bool.{Bool, true, false, cond}
use mathlib.Core.Path.{◌≡◌, refl, ◌∙◌}
use lib.ListN.{get_or}
use native.Mathlib.Omega.{arith}
use Rattle.lists.specs.Lists.{any}
use Rattle.value.specs.Value.{Value, fin}
use Rattle.value.specs.Stored.{stored}
use Rattle.wire.specs.Layout.{items}
use Rattle.rules.specs.Rounds.{best, covered, round}
use Rattle.graph.specs.Layouts.{hyper_layout, cover_layout}
use Rattle.scans.specs.Scan.{part_of}
use Rattle.halves.specs.Held.{held}
use Rattle.halves.specs.Room.{half}
use Rattle.scans.specs.Scan.{Done}

-- a node that is covered is 0, and otherwise the least stays the least
stored_cond : (t : Bool) (k : ℕ) (a : Value) → cond t 0 (min k (stored a)) ≡ min k (stored (cond t (fin 0) a))
unfolding stored
stored_cond true k a = omega arith
stored_cond false k a = refl

pub round_done : (s : List ℕ) (n h at c middle from to : ℕ) (b₀ b₁ b₂ : List ℕ)
    → Done n from to b₀ b₁ (λ v. min (get_or b₀ (to + v) 0) (stored (best (held (half n from b₀)) v (items (hyper_layout s n) h at))))
    → Done n from to b₁ b₂ (λ v. cond (covered (held (half n from b₁)) v (items (cover_layout s n) c middle)) 0 (get_or b₁ (to + v) 0))
    → Done n from to b₀ b₂ (λ v. min (get_or b₀ (to + v) 0) (stored (round (part_of s n h at c middle) (held (half n from b₀)) v)))
unfolding round part_of
round_done s n h at c middle from to b₀ b₁ b₂ d₁ d₂ = record {
  same_length = d₂.same_length ∙ d₁.same_length;
  this = d₂.this ∙ d₁.this;
  past = d₂.past ∙ d₁.past;
  each = λ v l. d₂.each v l ∙ rw (d₁.each v l, d₁.this)
      (stored_cond (covered (held (half n from b₀)) v (items (cover_layout s n) c middle)) (get_or b₀ (to + v) 0) (best (held (half n from b₀)) v (items (hyper_layout s n) h at)));
}

-- with no cover edge nothing is done
pub none_covered : (s : List ℕ) (n k p from to : ℕ) (b : List ℕ) → k ≡ 0
    → Done n from to b b (λ v. cond (covered (held (half n from b)) v (items (cover_layout s n) k p)) 0 (get_or b (to + v) 0))
unfolding items covered any
none_covered s n k p from to b e = rw e (record { same_length = refl; this = refl; past = refl; each = λ v l. refl })
