-- `decimals::Writer::long` meets its contract: the measure is the number.
use Rattle.decimals.proofs.Writer.+long.Given as goal

abbrev pub decreases-long : goal.decreases-long
decreases-long l = l.n
