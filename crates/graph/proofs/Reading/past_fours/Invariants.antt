-- `graph::Reading::past_fours` meets its contract: so far all targets of the fours that were passed name nodes.
use Prim.Native.Nat.{◌-◌}
use Rattle.graph.proofs.Names.{Fours}
use Rattle.graph.proofs.Reading.past_fours.Given as goal

abbrev pub invariant-loop-at : goal.invariant-loop-at
invariant-loop-at l = Fours l.self.bytes.now l.self.nodes l.first l.end l.at

abbrev pub decreases-loop-at : goal.decreases-loop-at
decreases-loop-at l = l.end - l.at
