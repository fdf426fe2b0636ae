-- `cycles::deepen_hypers` meets its contract: the hyperedges passed lead no deeper, and no label is deeper than it has to be.
use Prim.Native.Nat.{ℕ, ◌+◌, ◌-◌, ◌*◌, ◌<◌, ◌≤◌}
use mathlib.Core.Path.{◌≡◌, sym, subst, ◌∙◌}
use mathlib.Core.Bool.{true}
use lib.ListN.{length, set}
use native.Mathlib.Omega.{arith}
use Rattle.lists.specs.Lists.{◌∈◌}
use Rattle.wire.specs.Bytes.{number}
use Rattle.wire.specs.Layout.{items}
use Rattle.rules.specs.Graph.{Target}
use Rattle.graph.specs.Format.{graph_header, target_count_at, hyper_width}
use Rattle.graph.specs.Layouts.{target_layout, hyper_layout, HyperOk}
use Rattle.cycles.specs.Labels.{label, Deepest, HyperFalls}
use Rattle.support.proofs.Passing.{Passing, passing_all, passing_here, passing_one, passing_turn, passing_done}
use Rattle.cycles.proofs.Labels.{target_named, Risen, risen_none, hyper_kept, hyper_raised, hyper_falls, hyper_stays, deeper_all}
use Rattle.cycles.proofs.deepen_hypers.Goals as goal
use Rattle.cycles.proofs.deepen_hypers.Goals.{After-deepest-deep, After-number_at-k, After-number_at-source, In-loop-i}

-- the next hyperedge is sound
here : (c : In-loop-i) → let a = c.args in HyperOk a.s.now a.n c.loop-i.p
here c = passing_here c.loop-i.invariant.0 c.loop-i-test.true

few : (c : In-loop-i) → c.args.n ≤ 4096
few c = c.requires.n_bound.0

-- as many labels as came
long : (c : In-loop-i) → length c.loop-i.labels ≡ 4096
long c = c.loop-i.invariant.1.same_length ∙ c.requires.n_bound.1

pub loop-i-init : goal.loop-i-init
loop-i-init c = (passing_all c.requires.sound, risen_none _ _ _ _)

pub number_at-source-requires : goal.number_at-source-requires
number_at-source-requires c = omega (arith, (here c).inside)

pub overflow_add-p : goal.overflow_add-p
overflow_add-p c = omega (arith, (here (goal.at.overflow_add-p c).In-loop-i).inside)

pub number_at-k-requires : goal.number_at-k-requires
number_at-k-requires c = omega (arith, (here (goal.at.number_at-k-requires c).In-loop-i).inside)

pub overflow_add-p-in-loop-i : goal.overflow_add-p-in-loop-i
overflow_add-p-in-loop-i c = omega (arith, (here (goal.at.overflow_add-p-in-loop-i c).In-loop-i).inside)

pub deepest-deep-requires : goal.deepest-deep-requires
deepest-deep-requires c = record { sound = rw c.number_at-k.ensures (here (goal.at.deepest-deep-requires c).In-loop-i).sound; n_bound = (few (goal.at.deepest-deep-requires c).In-loop-i, long (goal.at.deepest-deep-requires c).In-loop-i) }

-- the source is a node, and its label is there
source_named : (c : After-number_at-source) → c.number_at-source.result < 4096
source_named c = omega (arith, c.number_at-source.ensures, ((let it : let a = c.args in HyperOk a.s.now a.n c.loop-i.p = passing_here c.loop-i.invariant.0 c.loop-i-test.true in it)).named, (let it : c.args.n ≤ 4096 = c.requires.n_bound.0 in it))

pub offset_bounds-labels-source : goal.offset_bounds-labels-source
offset_bounds-labels-source c = omega (arith, source_named (goal.at.offset_bounds-labels-source c).After-number_at-source)

pub bounds-labels-source : goal.bounds-labels-source
bounds-labels-source c = source_named (goal.at.bounds-labels-source c).After-number_at-source

pub overflow_add-p-in-loop-i-3 : goal.overflow_add-p-in-loop-i-3
overflow_add-p-in-loop-i-3 c = omega (arith, (here (goal.at.overflow_add-p-in-loop-i-3 c).In-loop-i).inside)

pub offset_bounds-labels-source-then-own-deep : goal.offset_bounds-labels-source-then-own-deep
offset_bounds-labels-source-then-own-deep c = omega (arith, source_named (goal.at.offset_bounds-labels-source-then-own-deep c).After-number_at-source)

pub bounds-labels-source-then-own-deep : goal.bounds-labels-source-then-own-deep
bounds-labels-source-then-own-deep c = source_named (goal.at.bounds-labels-source-then-own-deep c).After-number_at-source

-- where the next one stands
next : (c : After-number_at-k) → let a = c.args in let p = c.loop-i.p in
    p + (4 + c.number_at-k.result * 6) ≡ (hyper_layout a.s.now a.n).next p
next c =
    let k : c.number_at-k.result ≡ number 2 c.args.s.now (c.loop-i.p + target_count_at) = c.number_at-k.ensures in
    omega arith

-- how deep its targets are, and that they are nodes
deep : (c : After-deepest-deep) → let a = c.args in let p = c.loop-i.p in
    Deepest (label c.loop-i.labels) ((hyper_layout a.s.now a.n).item p).targets c.deepest-deep.result
deep c =
    let a = c.args in
    let p = c.loop-i.p in
    subst (λ (k : ℕ). Deepest (label c.loop-i.labels) (items (target_layout a.s.now a.n) k (p + hyper_width)) c.deepest-deep.result)
    c.number_at-k.ensures c.deepest-deep.ensures

named : (c : In-loop-i) → let a = c.args in let p = c.loop-i.p in
    (t : Target) → t ∈ ((hyper_layout a.s.now a.n).item p).targets → t.node < a.n
named c = target_named _ _ _ _ (here c).sound

pub loop-i-preserved-then-own-deep : goal.loop-i-preserved-then-own-deep
loop-i-preserved-then-own-deep c =
    let l = c.loop-i in
    let h = c.loop-i-test.true in
    let fit : c.args.n ≤ length c.args.labels.now = omega (arith, few (goal.at.loop-i-preserved-then-own-deep c).In-loop-i, c.requires.n_bound.1) in
    let less = rw c.number_at-source.ensures at c.if-own-deep.true in
    let e = passing_one l.invariant.0 h in
    let a = c.args in
    let r = c.deepest-deep.result in
    let after : ℕ → Type 0 = λ (v : ℕ). (let L = hyper_layout a.s.now a.n in
    Passing L a.h graph_header (HyperFalls (label a.labels.now) (label (set l.labels v r))) (l.i - 1) (l.p + (4 + c.number_at-k.result * 6)) × Risen a.n (items L a.h graph_header) HyperFalls a.labels.now (set l.labels v r) true) in
    subst after (sym c.number_at-source.ensures) (rw (next (goal.at.loop-i-preserved-then-own-deep c).After-number_at-k) (
      passing_turn l.invariant.0 h (hyper_stays l.invariant.1 _ e (here (goal.at.loop-i-preserved-then-own-deep c).In-loop-i).named (named (goal.at.loop-i-preserved-then-own-deep c).In-loop-i) fit (deep (goal.at.loop-i-preserved-then-own-deep c).After-deepest-deep) less)
          (hyper_falls l.invariant.1 _ e (here (goal.at.loop-i-preserved-then-own-deep c).In-loop-i).named (named (goal.at.loop-i-preserved-then-own-deep c).In-loop-i) fit (deep (goal.at.loop-i-preserved-then-own-deep c).After-deepest-deep) less),
      hyper_raised l.invariant.1 _ e (here (goal.at.loop-i-preserved-then-own-deep c).In-loop-i).named (named (goal.at.loop-i-preserved-then-own-deep c).In-loop-i) fit (deep (goal.at.loop-i-preserved-then-own-deep c).After-deepest-deep) less,
    ))

pub loop-i-preserved : goal.loop-i-preserved
loop-i-preserved c =
    let l = c.loop-i in
    let h = c.loop-i-test.true in
    let fit : c.args.n ≤ length c.args.labels.now = omega (arith, few (goal.at.loop-i-preserved c).In-loop-i, c.requires.n_bound.1) in
    let more = rw c.number_at-source.ensures at c.if-own-deep.false in
    let e = passing_one l.invariant.0 h in
    rw (next (goal.at.loop-i-preserved c).After-number_at-k) (passing_turn l.invariant.0 h (λ e f. f) (hyper_kept l.invariant.1 _ e (here (goal.at.loop-i-preserved c).In-loop-i).named (named (goal.at.loop-i-preserved c).In-loop-i) fit (deep (goal.at.loop-i-preserved c).After-deepest-deep) more), l.invariant.1)

pub returns : goal.returns
returns c = let l = c.loop-i in deeper_all (passing_done l.invariant.0 (omega arith)) l.invariant.1
