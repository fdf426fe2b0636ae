-- The greatest weight plus value over targets, taken one by one. Assumes nothing.
use Prim.Native.Nat.{ℕ, ◌+◌, ◌-◌, ◌<◌, max}
use mathlib.Core.List.{List}
use mathlib.Core.Path.{◌≡◌, ap}
use native.Mathlib.Omega.{arith}
use Rattle.value.specs.Value.{plus}
use Rattle.value.specs.Stored.{stored}
use Rattle.value.proofs.Stored.{stored_greatest}
use Rattle.wire.specs.Bytes.{number}
use Rattle.wire.specs.Layout.{items}
use Rattle.wire.proofs.Layouts.{items_more}
use Rattle.rules.specs.Graph.{Target}
use Rattle.rules.specs.Rounds.{Assignment, worst}
use Rattle.graph.specs.Format.{node_at, target_width}
use Rattle.graph.specs.Layouts.{target_layout}

-- the greatest so far, and that of the targets left, make the whole
module _ (s : List ℕ) (n : ℕ) (x : Assignment) where
  pub worst_turn : (k at most next w : ℕ) → max most (stored (worst x (items (target_layout s n) k at))) ≡ w → 0 < k
      → next ≡ max most (stored (plus (number 4 s at) (x (number 2 s (at + node_at)))))
      → max next (stored (worst x (items (target_layout s n) (k - 1) (at + target_width)))) ≡ w
  unfolding worst
  worst_turn k at most next w whole h e =
      let rest = worst x (items (target_layout s n) (k - 1) (at + target_width)) in
      let here = stored_greatest (plus (number 4 s at) (x (number 2 s (at + node_at)))) rest in
      let more = ap (λ (l : List Target). max most (stored (worst x l))) (items_more (target_layout s n) k at h) in
      omega (arith, here, more)

  pub worst_end : (k at most w : ℕ) → max most (stored (worst x (items (target_layout s n) k at))) ≡ w → k ≡ 0 → most ≡ w
  unfolding worst items stored
  worst_end k at most w whole h =
      let none = ap (λ (j : ℕ). max most (stored (worst x (items (target_layout s n) j at)))) h in omega arith
