-- What a turn writes stands behind what the turns before it wrote.
use Rattle.std.proofs.Common.{ℕ, List, ◌++◌}
use Rattle.std.specs.declared.option.Option.{Option}
use Rattle.std.proofs.KnownBytes.{Appends-trans}
use Rattle.intake.specs.Fronts.{AppendsOnly}
use Rattle.trials.proofs.answer_all.Goals as goal

appended : (a b c : Option (List ℕ)) → AppendsOnly a b → AppendsOnly b c → AppendsOnly a c
appended a b c p q = (p.0 ++ q.0, Appends-trans a b c p.0 q.0 p.1 q.1)

pub returns-in_err-answer_next : goal.returns-in_err-answer_next
returns-in_err-answer_next g c = appended _ (g.W.Write.contents c.loop.to) _ c.loop.invariant c.answer_next.ensures

pub returns-then-not-branch : goal.returns-then-not-branch
returns-then-not-branch g c = appended _ (g.W.Write.contents c.loop.to) _ c.loop.invariant c.answer_next.ensures

pub loop-preserved : goal.loop-preserved
loop-preserved g c = appended _ (g.W.Write.contents c.loop.to) _ c.loop.invariant c.answer_next.ensures
