-- `chained::run_in_lists` meets its contract: each turn begins with round i in the first half of the room, the next in the second, and the nodes that differ listed.
use Prim.Native.Nat.{◌-◌, ◌≤◌}
use lib.ListN.{length}
use Rattle.graph.specs.Viewed.{decoded_of}
use Rattle.changes.specs.Listed.{Listed}
use Rattle.turns.specs.Turns.{AtRound}
use Rattle.chained.proofs.run_in_lists.Given as goal

abbrev pub invariant-loop-many : goal.invariant-loop-many
invariant-loop-many g l = record {
  at_round : AtRound (decoded_of l.g) l.budget l.round l.initial.room l.room;
  listed : Listed l.g.nodes l.g.nodes l.many l.room l.now;
  few : l.many ≤ l.g.nodes;
  room_for_all : l.g.nodes ≤ length l.next;
}

abbrev pub decreases-loop-many : goal.decreases-loop-many
decreases-loop-many g l = l.budget - l.round
