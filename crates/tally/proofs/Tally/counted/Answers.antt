-- `Tally::counted` meets its contract: one more at the place, and the largest is the larger.
use Rattle.std.proofs.Common.{arith}
use Rattle.tally.proofs.Counting.{counted_is}
use Rattle.tally.proofs.Tally.counted.Goals as goal

pub returns : goal.returns
returns c = counted_is _ _ _ _ (omega arith)
