-- The count of bytes falls.
use Rattle.trials.proofs.sums.+add_number.Given as goal

abbrev pub decreases-add_number : goal.decreases-add_number
decreases-add_number l = l.k
