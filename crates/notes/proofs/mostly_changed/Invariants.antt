-- `notes::mostly_changed` keeps within the room.
use Prim.Native.Nat.{◌-◌, ◌≤◌}
use Rattle.notes.proofs.mostly_changed.Given as goal

abbrev pub invariant-loop-j : goal.invariant-loop-j
invariant-loop-j l = l.many ≤ l.j - l.from
