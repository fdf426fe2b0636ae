-- `targets::worst` meets its contract: the greatest so far, and that of the targets left, make the whole.
use Prim.Native.Nat.{◌-◌, ◌≤◌, max}
use mathlib.Core.Path.{◌≡◌}
use Rattle.value.specs.Stored.{stored, infinite}
use Rattle.wire.specs.Layout.{items, Sound}
use Rattle.rules.specs.Rounds as rules
use Rattle.graph.specs.Layouts.{target_layout}
use Rattle.halves.specs.Held.{held}
use Rattle.targets.proofs.worst.Given as goal

abbrev pub invariant-loop : goal.invariant-loop
invariant-loop l =
    let L = target_layout l.s l.n in
    let left = l.k - l.counter in
    Sound L left l.p × (l.most.0 ≤ infinite) × (max l.most.0 (stored (rules.worst (held l.x) (items L left l.p))) ≡ stored (rules.worst (held l.x) (items L l.k l.at)))
