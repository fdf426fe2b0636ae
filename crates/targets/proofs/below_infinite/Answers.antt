-- `targets::below_infinite` meets its contract.
use Prim.Native.Nat.{ℕ, ◌+◌, ◌-◌, ◌<◌, min}
use mathlib.Core.Path.{◌≡◌, ap}
use native.Mathlib.Omega.{arith}
use lib.ListN.{get_or}
use Rattle.value.specs.Stored.{infinite}
use Rattle.value.proofs.Stored.{stored_plus}
use Rattle.wire.specs.Bytes.{number}
use Rattle.wire.specs.Layout.{items}
use Rattle.graph.specs.Format.{node_at}
use Rattle.graph.specs.Layouts.{target_layout}
use Rattle.halves.specs.Held.{held}
use Rattle.targets.specs.Below.{below}
use Rattle.targets.proofs.Below.{below_one}
use Rattle.targets.proofs.below_infinite.Goals as goal
use Rattle.targets.proofs.below_infinite.Goals.{After-number_at-node}

pub number_at-weight-requires : goal.number_at-weight-requires
number_at-weight-requires c = omega (arith, c.requires.target_ok.inside)

pub overflow_add-at : goal.overflow_add-at
overflow_add-at c = omega (arith, c.requires.target_ok.inside)

pub number_at-node-requires : goal.number_at-node-requires
number_at-node-requires c = omega (arith, c.requires.target_ok.inside)

-- the target names a node
node_named : (c : After-number_at-node) → c.number_at-node.result < c.args.n
node_named c = rw c.number_at-node.ensures c.requires.target_ok.named

pub offset_bounds-x-node : goal.offset_bounds-x-node
offset_bounds-x-node c = omega (arith, node_named c)

pub bounds-x-node : goal.bounds-x-node
bounds-x-node c = omega (arith, node_named (goal.at.bounds-x-node c).After-number_at-node)

pub overflow_sub-below : goal.overflow_sub-below
overflow_sub-below c = omega (arith, c.type_inv.x c.number_at-node.result)

-- the sum is stored as it is, or infinite where 64 bits don't hold it
sum : (c : After-number_at-node) → let a = c.args in
    below (held a.x.now) (items (target_layout a.s.now a.n) 1 a.at)
    ≡ infinite - min (c.number_at-weight.result + get_or a.x.now c.number_at-node.result 0) infinite
sum c =
    let a = c.args in
    let x = a.x.now in
    let node = number 2 a.s.now (a.at + node_at) in
    let stored-sum = stored_plus (number 4 a.s.now a.at) (get_or x node 0) (omega (arith, c.type_inv.x node)) in
    let same = ap (λ (v : ℕ). get_or x v 0) c.number_at-node.ensures in
    omega (arith, below_one a.s.now a.n (held x) a.at, stored-sum, same, c.number_at-weight.ensures)

pub returns-then-below-weight : goal.returns-then-below-weight
returns-then-below-weight c = omega (arith, sum (goal.at.returns-then-below-weight c).After-number_at-node, c.if-below-weight.true, c.type_inv.x c.number_at-node.result)

pub returns : goal.returns
returns c = omega (arith, sum (goal.at.returns c).After-number_at-node, c.if-below-weight.false, c.type_inv.x c.number_at-node.result)
