-- `halves::alike` meets its contract: no bit is gathered exactly where the numbers before j are the same.
use mathlib.Core.Path.{◌≡◌}
use Rattle.halves.specs.Room.{Level}
use Rattle.halves.proofs.alike.Given as goal

abbrev pub invariant-loop-j : goal.invariant-loop-j
invariant-loop-j l = (l.apart ≡ 0 → Level l.n l.at l.j l.room) × (Level l.n l.at l.j l.room → l.apart ≡ 0)
