-- `backing::worst` meets its contract: the greatest so far, and that of the targets left, make the whole.
use Rattle.std.proofs.Common.{◌≡◌, ◌≤◌, max}
use Rattle.value.specs.Stored.{stored, infinite}
use Rattle.wire.specs.Layout.{items, Sound}
use Rattle.rules.specs.Rounds as rules
use Rattle.graph.specs.Layouts.{target_layout}
use Rattle.support.specs.Claims.{claimed_value}
use Rattle.backing.proofs.worst.Given as goal

abbrev pub invariant-loop-i : goal.invariant-loop-i
invariant-loop-i l =
    let L = target_layout l.s l.claims.nodes in
    let x = claimed_value l.claims.bytes.now in
    Sound L l.i l.p × (l.most.0 ≤ infinite)
    × (max l.most.0 (stored (rules.worst x (items L l.i l.p))) ≡ stored (rules.worst x (items L l.k l.at)))

abbrev pub decreases-loop-i : goal.decreases-loop-i
decreases-loop-i l = l.i
