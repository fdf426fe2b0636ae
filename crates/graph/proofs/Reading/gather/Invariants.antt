-- `graph::Reading::gather` meets its contract: so far it is the greatest of those that were gathered.
use Prim.Native.Nat.{◌-◌, ◌≤◌}
use Rattle.graph.proofs.Near.{SoFar}
use Rattle.graph.proofs.Reading.gather.Given as goal

abbrev pub invariant-loop-so_far : goal.invariant-loop-so_far
invariant-loop-so_far l = (l.so_far.at ≤ l.end) × SoFar l.self.bytes.now 1 l.initial.so_far.at l.initial.so_far.most l.so_far.at l.so_far.most

abbrev pub decreases-loop-so_far : goal.decreases-loop-so_far
decreases-loop-so_far l = l.end - l.so_far.at
