-- `targets::target_sum` meets its contract.
use Prim.Native.Nat.{ℕ, ◌<◌}
use mathlib.Core.Path.{ap₂, ◌∙◌}
use native.Mathlib.Omega.{arith}
use Rattle.value.specs.Value.{plus}
use Rattle.value.specs.Stored.{stored}
use Rattle.halves.specs.Held.{held}
use Rattle.targets.proofs.target_sum.Goals as goal
use Rattle.targets.proofs.target_sum.Goals.{After-number_at-node}

pub number_at-weight-requires : goal.number_at-weight-requires
number_at-weight-requires c = omega (arith, c.requires.target_ok.inside)

pub overflow_add-at : goal.overflow_add-at
overflow_add-at c = omega (arith, c.requires.target_ok.inside)

pub number_at-node-requires : goal.number_at-node-requires
number_at-node-requires c = omega (arith, c.requires.target_ok.inside)

-- the target names a node
node_named : (c : After-number_at-node) → c.number_at-node.result < c.args.n
node_named c = rw c.number_at-node.ensures c.requires.target_ok.named

pub offset_bounds-x-node : goal.offset_bounds-x-node
offset_bounds-x-node c = omega (arith, node_named c)

pub bounds-x-node : goal.bounds-x-node
bounds-x-node c = omega (arith, node_named (goal.at.bounds-x-node c).After-number_at-node)

pub returns : goal.returns
returns c =
    let a = c.args in
    c.add.ensures ∙ ap₂ (λ (w v : ℕ). stored (plus w (held a.x.now v))) c.number_at-weight.ensures c.number_at-node.ensures
