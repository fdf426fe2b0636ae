-- `Tally::takes_more` meets its contract: the counts are tested first, then the sum.
use mathlib.Core.Path.{sym, ◌∙◌}
use native.Mathlib.Omega.{arith}
use Rattle.lists.proofs.Tests.{by}
use Rattle.tally.proofs.Answers.{sum_test, takes_none, takes_sum}
use Rattle.tally.proofs.Tally.takes_more.Goals as goal

pub returns-else-below_most : goal.returns-else-below_most
returns-else-below_most c = let a = c.args in c.if-below_most.false ∙ sym (takes_none a.self a.rounds (by c.below_most.ensures c.if-below_most.false))

pub returns-then-below_most : goal.returns-then-below_most
returns-then-below_most c =
    let a = c.args in
    sum_test a.self.sum a.rounds (omega arith) ∙ sym (takes_sum _ _ (by c.below_most.ensures c.if-below_most.true))
