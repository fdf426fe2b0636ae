use Rattle.trials.specs.Sums.{after_all}
use Rattle.trials.proofs.sums.U8Summed.added_to.Goals as goal

pub returns : goal.returns
unfolding after_all
returns c = c.add.ensures
