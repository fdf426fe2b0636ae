-- `marked::many_changed` meets its contract: it counts no more than it passes.
use Prim.Native.Nat.{◌-◌, ◌≤◌}
use Rattle.marked.proofs.many_changed.Given as goal

abbrev pub invariant-loop-v : goal.invariant-loop-v
invariant-loop-v l = l.many ≤ l.v

abbrev pub decreases-loop-v : goal.decreases-loop-v
decreases-loop-v l = l.n - l.v
