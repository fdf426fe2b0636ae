-- What was written so far stands behind what the writer held.
use Rattle.intake.specs.Fronts.{AppendsOnly}
use Rattle.trials.proofs.answer_all.Given as goal

abbrev pub invariant-loop : goal.invariant-loop
invariant-loop g l = AppendsOnly (g.W.Write.contents l.initial.to) (g.W.Write.contents l.to)
