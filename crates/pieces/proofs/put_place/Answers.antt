-- `pieces::put_place` meets its contract: nothing, or the word and the offset.
use Rattle.std.proofs.Common.{ap, arith}
use Rattle.decimals.proofs.Writing.{nothing, ◌then◌, said}
use Rattle.pieces.specs.Lines.{place}
use Rattle.pieces.proofs.Lines.{place_some}
use Rattle.pieces.proofs.put_place.Goals as goal

pub returns-then-offset-ne0 : goal.returns-then-offset-ne0
returns-then-offset-ne0 c = said (c.word.ensures then c.long.ensures) (place_some c.args.offset c.if-offset-ne0.true)

pub returns-else-offset-ne0 : goal.returns-else-offset-ne0
unfolding place
returns-else-offset-ne0 c = said (nothing _ (omega (arith, c.requires))) (ap place c.if-offset-ne0.false)
