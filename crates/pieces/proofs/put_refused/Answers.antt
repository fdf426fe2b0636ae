-- `pieces::put_refused` meets its contract: its word and the number, the place, and the end of the line.
use Rattle.decimals.proofs.Writing.{◌then◌}
use Rattle.pieces.specs.Lines.{refused_line}
use Rattle.pieces.proofs.put_refused.Goals as goal

pub returns : goal.returns
unfolding refused_line
returns c = c.number.ensures then c.put_place.ensures then c.word.ensures
