-- `wording::put_next` meets its contract: five pieces one after another.
use Rattle.std.proofs.Common.{sym}
use Rattle.decimals.proofs.Writing.{◌then◌, said}
use Rattle.wording.proofs.put_next.Goals as goal

pub returns : goal.returns
returns c =
    c.put_quantifier.ensures then c.word.ensures then said c.put_signed.ensures (sym c.only.ensures) then said c.put_signed-2.ensures (sym c.limit.ensures)
    then c.word-2.ensures
