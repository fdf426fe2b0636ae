-- `marked::run_on` meets its contract: each turn begins with a round in the first half of the room, and the next, which is another, in the
-- second; `run_noted` goes on from there.
use Prim.Native.Nat.{◌-◌}
use Rattle.graph.specs.Viewed.{decoded_of}
use Rattle.halves.specs.Room.{Same}
use Rattle.turns.specs.Turns.{AtRound}
use Rattle.marked.proofs.run_on.Given as goal

abbrev pub invariant-loop-budget : goal.invariant-loop-budget
invariant-loop-budget l = AtRound (decoded_of l.g) l.budget l.round l.initial.room l.room × (¬ Same l.g.nodes l.room)

abbrev pub decreases-loop-budget : goal.decreases-loop-budget
decreases-loop-budget l = l.budget - l.round
