-- `cycles::deepest` meets its contract: the largest so far is that of the targets passed.
use Prim.Native.Nat.{◌+◌, ◌<◌}
use mathlib.Core.Path.{◌≡◌, ap}
use native.Mathlib.Omega.{arith}
use Rattle.wire.specs.Bytes.{number}
use Rattle.graph.specs.Format.{node_at}
use Rattle.graph.specs.Layouts.{TargetOk}
use Rattle.cycles.specs.Labels.{label}
use Rattle.support.proofs.Passing.{passing_all, passing_here, passing_one, passing_turn, passing_done}
use Rattle.cycles.proofs.deepest.Goals as goal
use Rattle.cycles.proofs.deepest.Goals.{After-number_at-node, In-loop-i}

-- the next target is sound
here : (c : In-loop-i) → let a = c.args in TargetOk a.s.now a.n c.loop-i.p
here c = passing_here c.loop-i.invariant.0 c.loop-i-test.true

pub loop-i-init : goal.loop-i-init
loop-i-init c = (passing_all c.requires.sound, λ m f. omega arith)

pub overflow_add-p : goal.overflow_add-p
overflow_add-p c = omega (arith, (here c).inside)

pub number_at-node-requires : goal.number_at-node-requires
number_at-node-requires c = omega (arith, (here c).inside)

-- its node's label is there
named : (c : After-number_at-node) → c.number_at-node.result < 4096
named c = omega (arith, c.number_at-node.ensures, ((let it : let a = c.args in TargetOk a.s.now a.n c.loop-i.p = passing_here c.loop-i.invariant.0 c.loop-i-test.true in it)).named, c.requires.n_bound.0)

pub offset_bounds-labels-node : goal.offset_bounds-labels-node
offset_bounds-labels-node c = omega (arith, named c)

pub bounds-labels-node : goal.bounds-labels-node
bounds-labels-node c = named (goal.at.bounds-labels-node c).After-number_at-node

pub overflow_add-p-in-loop-i : goal.overflow_add-p-in-loop-i
overflow_add-p-in-loop-i c = omega (arith, (here (goal.at.overflow_add-p-in-loop-i c).In-loop-i).inside)

-- the label that was read
own_is : (c : After-number_at-node) → let a = c.args in
    label a.labels.now c.number_at-node.result ≡ label a.labels.now (number 2 a.s.now (c.loop-i.p + node_at))
own_is c = ap (label c.args.labels.now) c.number_at-node.ensures

pub loop-i-preserved-then-most-own : goal.loop-i-preserved-then-most-own
loop-i-preserved-then-most-own c =
    let l = c.loop-i in
    let h = c.loop-i-test.true in
    let e = own_is (goal.at.loop-i-preserved-then-most-own c).After-number_at-node in (
      passing_turn l.invariant.0 h (λ u d. omega (arith, c.if-most-own.true)) (omega arith),
      λ m f. omega (arith, f _ (passing_one l.invariant.0 h)),
    )

pub loop-i-preserved : goal.loop-i-preserved
loop-i-preserved c =
    let l = c.loop-i in
    (passing_turn l.invariant.0 c.loop-i-test.true (λ u d. d) (omega (arith, c.if-most-own.false, own_is (goal.at.loop-i-preserved c).After-number_at-node)), l.invariant.1)

pub returns : goal.returns
returns c = let l = c.loop-i in record { above = passing_done l.invariant.0 (omega arith); least = l.invariant.1 }
