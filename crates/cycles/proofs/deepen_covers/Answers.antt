-- `cycles::deepen_covers` meets its contract: the cover edges passed lead less deep, and no label is deeper than it has to be.
use Prim.Native.Nat.{ℕ, ◌+◌, ◌<◌, ◌≤◌}
use lib.ListN.{length}
use native.Mathlib.Omega.{arith}
use Rattle.wire.specs.Bytes.{number}
use Rattle.graph.specs.Format.{cover_target_at}
use Rattle.graph.specs.Layouts.{CoverOk}
use Rattle.cycles.specs.Labels.{label, Within}
use Rattle.support.proofs.Passing.{passing_all, passing_here, passing_one, passing_turn, passing_done}
use Rattle.cycles.proofs.Labels.{risen_none, cover_raised, cover_falls, cover_stays, cover_within, deeper_all}
use Rattle.cycles.proofs.deepen_covers.Goals as goal
use Rattle.cycles.proofs.deepen_covers.Goals.{After-number_at-source, After-number_at-target, In-loop-i}

-- the next cover edge is sound
here : (c : In-loop-i) → let a = c.args in CoverOk a.s.now a.n c.loop-i.p
here c = passing_here c.loop-i.invariant.0 c.loop-i-test.true

pub loop-i-init : goal.loop-i-init
loop-i-init c = (passing_all c.requires.sound, risen_none _ _ _ _, λ m o v l. omega (arith, o v l))

pub number_at-source-requires : goal.number_at-source-requires
number_at-source-requires c = omega (arith, (here c).inside)

pub overflow_add-p : goal.overflow_add-p
overflow_add-p c = omega (arith, (here (goal.at.overflow_add-p c).In-loop-i).inside)

pub number_at-target-requires : goal.number_at-target-requires
number_at-target-requires c = omega (arith, (here (goal.at.number_at-target-requires c).In-loop-i).inside)

-- source and target are nodes, and their labels are there
source_named : (c : After-number_at-source) → c.number_at-source.result < c.args.n
source_named c = omega (arith, c.number_at-source.ensures, ((let it : let a = c.args in CoverOk a.s.now a.n c.loop-i.p = passing_here c.loop-i.invariant.0 c.loop-i-test.true in it)).named)

target_named : (c : After-number_at-target) → c.number_at-target.result < c.args.n
target_named c = omega (arith, c.number_at-target.ensures, ((let it : let a = c.args in CoverOk a.s.now a.n c.loop-i.p = passing_here c.loop-i.invariant.0 c.loop-i-test.true in it)).target_named)

few : (c : In-loop-i) → c.args.n ≤ 4096
few c = c.requires.n_bound.0

pub offset_bounds-labels-target : goal.offset_bounds-labels-target
offset_bounds-labels-target c = omega (arith, target_named c, few (goal.at.offset_bounds-labels-target c).In-loop-i)

pub bounds-labels-target : goal.bounds-labels-target
bounds-labels-target c = omega (arith, target_named (goal.at.bounds-labels-target c).After-number_at-target, few (goal.at.bounds-labels-target c).In-loop-i)

pub offset_bounds-labels-source : goal.offset_bounds-labels-source
offset_bounds-labels-source c = omega (arith, source_named (goal.at.offset_bounds-labels-source c).After-number_at-source, few (goal.at.offset_bounds-labels-source c).In-loop-i)

pub bounds-labels-source : goal.bounds-labels-source
bounds-labels-source c = omega (arith, source_named (goal.at.bounds-labels-source c).After-number_at-source, few (goal.at.bounds-labels-source c).In-loop-i)

pub overflow_add-p-in-loop-i : goal.overflow_add-p-in-loop-i
overflow_add-p-in-loop-i c = omega (arith, (here (goal.at.overflow_add-p-in-loop-i c).In-loop-i).inside)

-- the target's label is small enough to be raised
low : (c : After-number_at-target) → let l = c.loop-i in
    (m : ℕ) → Within c.args.n c.args.labels.now m → label l.labels c.number_at-target.result + l.i ≤ m + c.args.c
low c m o = c.loop-i.invariant.2 m o c.number_at-target.result (target_named c)

pub overflow_add-labels : goal.overflow_add-labels
overflow_add-labels c =
    omega (arith, low (goal.at.overflow_add-labels c).After-number_at-target 4294901760 c.requires.within, c.requires.c_bound)

pub offset_bounds-labels-source-then-own-below : goal.offset_bounds-labels-source-then-own-below
offset_bounds-labels-source-then-own-below c = omega (arith, source_named (goal.at.offset_bounds-labels-source-then-own-below c).After-number_at-source, few (goal.at.offset_bounds-labels-source-then-own-below c).In-loop-i)

pub bounds-labels-source-then-own-below : goal.bounds-labels-source-then-own-below
bounds-labels-source-then-own-below c = omega (arith, source_named (goal.at.bounds-labels-source-then-own-below c).After-number_at-source, few (goal.at.bounds-labels-source-then-own-below c).In-loop-i)

pub loop-i-preserved-then-own-below : goal.loop-i-preserved-then-own-below
loop-i-preserved-then-own-below c =
    let l = c.loop-i in
    let h = c.loop-i-test.true in
    let a = c.args in
    let r = l.invariant.1 in
    let source = (here (goal.at.loop-i-preserved-then-own-below c).In-loop-i).named in
    let target = (here (goal.at.loop-i-preserved-then-own-below c).In-loop-i).target_named in
    let long : a.n ≤ length a.labels.now = omega (arith, few (goal.at.loop-i-preserved-then-own-below c).In-loop-i, c.requires.n_bound.1) in
    let own = rw (c.number_at-source.ensures, c.number_at-target.ensures) at c.if-own-below.true in
    let e = passing_one l.invariant.0 h in
    rw (c.number_at-source.ensures, c.number_at-target.ensures) (
      passing_turn l.invariant.0 h (cover_stays r _ e source target long own) (cover_falls r _ e source target long own),
      cover_raised r _ e source target long own,
      λ m o. cover_within r _ e source target long own h (l.invariant.2 m o),
    )

pub loop-i-preserved : goal.loop-i-preserved
loop-i-preserved c =
    let l = c.loop-i in
    let more = rw (c.number_at-source.ensures, c.number_at-target.ensures) at c.if-own-below.false in (
      passing_turn l.invariant.0 c.loop-i-test.true (λ e d. d) (omega (arith, more, l.invariant.1.rise (number 2 c.args.s.now (l.p + cover_target_at)))),
      l.invariant.1,
      λ m o v u. omega (arith, l.invariant.2 m o v u),
    )

pub returns : goal.returns
returns c = let l = c.loop-i in
    record { deeper = deeper_all (passing_done l.invariant.0 (omega arith)) l.invariant.1; by_index = λ m o v u. omega (arith, l.invariant.2 m o v u) }
