-- `graph::Reading::covers_to_end` meets its contract: in order they are read without a fault, up to the end; else each `return` is their reading.
use Rattle.std.proofs.Common.{sym, eq-eqb, ne_eqb}
use Rattle.lists.proofs.Tests.{by}
use Rattle.wire.proofs.Reading.{reading, passed}
use Rattle.graph.proofs.Names.{in_order_read}
use Rattle.graph.proofs.Reading.covers_to_end.Goals as goal

pub returns-then-covers_in_order : goal.returns-then-covers_in_order
returns-then-covers_in_order c = sym (in_order_read _ _ _ _ (by c.covers_in_order.ensures c.if-covers_in_order.true))

pub returns-in_err-last : goal.returns-in_err-last
returns-in_err-last c = simp (passed c.from_residual.ensures, sym (rw c.start.ensures at c.in_err-last.ensures), reading)

pub returns-then-last-self : goal.returns-then-last-self
returns-then-last-self c = simp (sym (rw c.start.ensures at c.in_ok-last.ensures), ne_eqb _ _ c.if-last-self.true, reading)

pub returns : goal.returns
returns c = simp (sym (rw c.start.ensures at c.in_ok-last.ensures), eq-eqb _ _ c.if-last-self.false, reading)
