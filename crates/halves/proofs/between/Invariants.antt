-- `halves::between` meets its contract: the numbers below i are the same.
use Prim.Native.Nat.{◌-◌, ◌≤◌}
use Rattle.halves.specs.Room.{Level}
use Rattle.halves.proofs.between.Given as goal

abbrev pub invariant-loop-i : goal.invariant-loop-i
invariant-loop-i l = (l.from ≤ l.i) × Level l.n l.from l.i l.room

abbrev pub decreases-loop-i : goal.decreases-loop-i
decreases-loop-i l = l.to - l.i
