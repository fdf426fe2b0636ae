-- `decimals::decimal_length` meets its contract: the measure is the number.
use Rattle.decimals.proofs.+decimal_length.Given as goal

abbrev pub decreases-decimal_length : goal.decreases-decimal_length
decreases-decimal_length l = l.n
