-- `cycles::deepest` meets its contract: the largest so far is that of the targets passed.
use Prim.Native.Nat.{ℕ, ◌≤◌}
use Rattle.lists.specs.Lists.{◌∈◌}
use Rattle.wire.specs.Layout.{items}
use Rattle.rules.specs.Graph.{Target}
use Rattle.graph.specs.Layouts.{target_layout}
use Rattle.cycles.specs.Labels.{label}
use Rattle.support.proofs.Passing.{Passing}
use Rattle.cycles.proofs.deepest.Given as goal

abbrev pub invariant-loop-i : goal.invariant-loop-i
invariant-loop-i l =
    let L = target_layout l.s l.n in
    Passing L l.k l.at (λ (t : Target). label l.labels t.node ≤ l.most) l.i l.p × ((m : ℕ) → ((t : Target) → t ∈ items L l.k l.at → label l.labels t.node ≤ m) → l.most ≤ m)

abbrev pub decreases-loop-i : goal.decreases-loop-i
decreases-loop-i l = l.i
