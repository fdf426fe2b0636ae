-- `sizing::some_until` meets its contract: the states' transitions are the model's.
use mathlib.Core.Path.{refl, sym, ◌∙◌}
use native.Mathlib.Omega.{arith}
use Rattle.sizing.proofs.Sizes.{same}
use Rattle.sizing.proofs.Sums.{all_steps}
use Rattle.sizing.proofs.some_until.Goals as goal

pub returns : goal.returns
returns c = same refl refl (omega (arith, c.min.ensures)) ∙ sym (all_steps c.args.m.holds)
