-- `transitions::pass_many` meets its contract: those passed all leave the state, and the others still rise.
use Rattle.std.proofs.Common.{◌≡◌, ◌+◌, ◌-◌, ◌≤◌}
use Rattle.transitions.specs.Held.{transitions_from, RiseFrom, leading}
use Rattle.transitions.proofs.pass_many.Given as goal

abbrev pub invariant-loop-i : goal.invariant-loop-i
invariant-loop-i l =
    (l.first ≤ l.i) × (l.i ≤ l.m.transitions) × (l.i + leading l.a (transitions_from l.m.bytes.now l.m.states l.i (l.m.transitions - l.i)) ≡ l.first + leading l.a (transitions_from l.m.bytes.now l.m.states l.first (l.m.transitions - l.first)))
    × RiseFrom l.a (transitions_from l.m.bytes.now l.m.states l.i (l.m.transitions - l.i))

abbrev pub decreases-loop-i : goal.decreases-loop-i
decreases-loop-i l = l.m.transitions - l.i
