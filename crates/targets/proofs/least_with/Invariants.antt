-- `targets::least_with` meets its contract: the least so far, and that over the targets left, make the whole.
use Prim.Native.Nat.{ℕ, ◌+◌, ◌-◌, ◌*◌, ◌≤◌, min}
use mathlib.Core.Path.{◌≡◌}
use Rattle.value.specs.Stored.{infinite}
use Rattle.wire.specs.Layout.{items, Sound}
use Rattle.graph.specs.Format.{target_width}
use Rattle.graph.specs.Layouts.{target_layout}
use Rattle.halves.specs.Held.{held}
use Rattle.targets.specs.Below.{below}
use Rattle.targets.proofs.least_with.Given as goal

abbrev pub invariant-loop-p : goal.invariant-loop-p
invariant-loop-p l =
    let L = target_layout l.s l.n in
    (i : ℕ) × (l.p + i * target_width ≡ l.end) × Sound L i l.p × (l.least ≤ infinite)
    × ((k : ℕ) → l.at + k * target_width ≡ l.end → min l.least (below (held l.x) (items L i l.p)) ≡ min l.before (below (held l.x) (items L k l.at)))

abbrev pub decreases-loop-p : goal.decreases-loop-p
decreases-loop-p l = l.end - l.p
