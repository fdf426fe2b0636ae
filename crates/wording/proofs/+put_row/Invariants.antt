-- `wording::put_row` meets its contract: the measure is the row's place, and operands are earlier rows.
use Rattle.wording.proofs.+put_row.Given as goal

abbrev pub decreases-put_row : goal.decreases-put_row
decreases-put_row l = l.i
