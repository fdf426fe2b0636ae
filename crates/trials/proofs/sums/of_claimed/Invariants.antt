-- Going on from the sum of the values among the first bytes leads to the sum of all.
use Rattle.std.proofs.Common.{◌≡◌, ◌≤◌, length, drop}
use Rattle.trials.specs.Sums.{after_all, claimed_values}
use Rattle.trials.proofs.sums.of_claimed.Given as goal

abbrev pub invariant-loop-at : goal.invariant-loop-at
invariant-loop-at l = (l.at ≤ length l.s) × (after_all l.sum (claimed_values l.at (drop l.at l.s)) ≡ after_all 1 (claimed_values 0 l.s))
