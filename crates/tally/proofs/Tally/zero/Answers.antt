-- `Tally::zero` meets its contract: it starts at zero.
use mathlib.Core.Path.{refl}
use Rattle.tally.specs.Tally.{at_zero}
use Rattle.tally.proofs.Tally.zero.Goals as goal

pub returns : goal.returns
unfolding at_zero
returns c = refl
