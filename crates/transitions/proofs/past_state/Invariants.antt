-- `transitions::past_state` meets its contract: those passed, and those at the front of the rest, are all at the front.
use Rattle.std.proofs.Common.{◌≡◌, ◌+◌, ◌-◌, ◌≤◌}
use Rattle.transitions.specs.Held.{transitions_from, leading}
use Rattle.transitions.proofs.past_state.Given as goal

abbrev pub invariant-loop-i : goal.invariant-loop-i
invariant-loop-i l =
    (l.first ≤ l.i) × (l.i ≤ l.m.transitions)
    × (l.i + leading l.a (transitions_from l.m.bytes.now l.m.states l.i (l.m.transitions - l.i)) ≡ l.first + leading l.a (transitions_from l.m.bytes.now l.m.states l.first (l.m.transitions - l.first)))
