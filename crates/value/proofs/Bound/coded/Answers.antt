-- `Bound::coded` meets its contract: by the test for the number that means no bound.
use borrow.Author.Tests.{eq-eqb, ne_eqb}
use Rattle.value.specs.Coded.{bound_of}
use Rattle.value.proofs.Bound.coded.Goals as goal

pub returns-then-code-eq4294967295 : goal.returns-then-code-eq4294967295
unfolding bound_of
returns-then-code-eq4294967295 c = rw (eq-eqb _ _ c.if-code-eq4294967295.true)

pub returns : goal.returns
unfolding bound_of
returns c = rw (ne_eqb _ _ c.if-code-eq4294967295.false)
