-- `halves::same` meets its contract.
use native.Mathlib.Omega.{arith}
use Rattle.halves.proofs.Room.{same_all}
use Rattle.halves.proofs.same.Goals as goal

pub returns : goal.returns
returns c =
    (λ e. same_all (c.between.ensures.0 e) c.requires.beside, λ e all. c.between.ensures.1 e (λ v l h. all v (omega (arith, c.requires.hi_le_n))))
