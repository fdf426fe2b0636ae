-- `graph::Reading::near` meets its contract: if those that were passed are sound, what is left of them reads as all of them do.
use Rattle.graph.proofs.Near.{Passing}
use Rattle.graph.proofs.Reading.near.Given as goal

abbrev pub invariant-loop-next : goal.invariant-loop-next
invariant-loop-next l = Passing l.self.bytes.now l.self.nodes l.last l.rest l.p

abbrev pub decreases-loop-next : goal.decreases-loop-next
decreases-loop-next l = l.p.rest.left
