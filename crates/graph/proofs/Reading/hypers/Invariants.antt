-- `graph::Reading::hypers` meets its contract: what is left of them is read as all of them are.
use Rattle.graph.specs.Near.{ReadsAs}
use Rattle.graph.proofs.Reading.hypers.Given as goal

abbrev pub invariant-loop-rest : goal.invariant-loop-rest
invariant-loop-rest l = ReadsAs l.self.bytes.now l.self.nodes (record { st = l.fn.first; left = l.k }) l.rest

abbrev pub decreases-loop-rest : goal.decreases-loop-rest
decreases-loop-rest l = l.rest.left
