-- Going on from the sum of the first items leads to the sum of all.
use Rattle.std.proofs.Common.{◌≡◌, ◌≤◌, length, drop}
use Rattle.trials.specs.Sums.{after_all, spread}
use Rattle.trials.proofs.sums.of.Given as goal

abbrev pub invariant-loop-item : goal.invariant-loop-item
invariant-loop-item g l = let f = g.T.Summed.bytes_of in (l.item-index ≤ length l.s) × (after_all l.sum (spread f (drop l.item-index l.s)) ≡ after_all 1 (spread f l.s))
