-- `wording::row_length` meets its contract: an operand's row is earlier, and its text no longer.
use Rattle.std.proofs.Common.{arith}
use Rattle.lists.proofs.Places.{first, second}
use Rattle.wording.proofs.Rows.{read_operand, left, right}
use Rattle.wording.proofs.+row_length.Goals as goal

pub row_length-requires : goal.row_length-requires
row_length-requires t c =
    let o = read_operand _ _ c.requires.ready c.row_at-row.ensures c.in-Next.is _ first in (omega arith, (o.ready, omega arith))

pub row_length-requires-in-Until : goal.row_length-requires-in-Until
row_length-requires-in-Until t c =
    let o = read_operand _ _ c.requires.ready c.row_at-row.ensures c.in-Until.is _ first in (omega arith, (o.ready, omega arith))

pub row_length-requires-in-Until-2 : goal.row_length-requires-in-Until-2
row_length-requires-in-Until-2 t c =
    let o = read_operand _ _ c.requires.ready c.row_at-row.ensures c.in-Until.is _ second in (omega arith, (o.ready, omega arith))

pub row_length-requires-in-And : goal.row_length-requires-in-And
row_length-requires-in-And t c =
    let o = left _ _ c.requires.ready c.row_at-row.ensures c.in-And.is in (omega arith, (o.ready, omega arith))

pub row_length-requires-in-And-2 : goal.row_length-requires-in-And-2
row_length-requires-in-And-2 t c =
    let o = right _ _ c.requires.ready c.row_at-row.ensures c.in-And.is in (omega arith, (o.ready, omega arith))
