-- `ordered::in_order` meets its contract: what is left to be tested from a record on, whose source was read, is the whole test.
use Prim.Native.Nat.{◌-◌}
use Rattle.ordered.proofs.Left.{Left}
use Rattle.ordered.proofs.in_order.Given as goal

abbrev pub invariant-loop-at : goal.invariant-loop-at
invariant-loop-at l = Left l.s l.n l.target l.k l.first l.end l.greatest l.at

abbrev pub decreases-loop-at : goal.decreases-loop-at
decreases-loop-at l = l.end - l.at
