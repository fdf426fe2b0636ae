-- What is left and the counts behind make what the most and the counts make.
use Rattle.std.proofs.Common.{◌≡◌, ◌+◌, ◌<◌, ◌≤◌, drop, length}
use Rattle.tally.specs.Tally.{most_accepted, together}
use Rattle.tally.proofs.below_most.Given as goal

abbrev pub invariant-loop-count : goal.invariant-loop-count
invariant-loop-count l = (l.count-index ≤ length l.fn.counts) × (0 < l.left) × (together l.fn.counts + l.left ≡ most_accepted + together (drop l.count-index l.fn.counts))
