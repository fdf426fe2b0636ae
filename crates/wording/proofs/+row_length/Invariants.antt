-- `wording::row_length` meets its contract: the measure is the row's place, and operands are earlier rows.
use Rattle.wording.proofs.+row_length.Given as goal

abbrev pub decreases-row_length : goal.decreases-row_length
decreases-row_length l = l.i
