-- `marked::run_noted` meets its contract: each turn begins with round i in the first half of the room, and the next in the second.
use Prim.Native.Nat.{◌-◌}
use Rattle.graph.specs.Viewed.{decoded_of}
use Rattle.notes.specs.Index.{Besides}
use Rattle.turns.specs.Turns.{AtRound}
use Rattle.marked.proofs.run_noted.Given as goal

abbrev pub invariant-loop-noted : goal.invariant-loop-noted
invariant-loop-noted l =
    AtRound (decoded_of l.g) l.budget l.i l.initial.room l.room × Besides l.g.nodes l.span l.room

abbrev pub decreases-loop-noted : goal.decreases-loop-noted
decreases-loop-noted l = l.budget - l.i
