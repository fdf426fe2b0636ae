-- `targets::least_with` meets its contract: the least so far, and that over the targets left, make the whole.
use Prim.Native.Nat.{ℕ, ◌+◌, ◌-◌, ◌*◌, ◌<◌, min}
use mathlib.Core.Path.{◌≡◌, refl}
use native.Mathlib.Omega.{arith}
use Rattle.wire.specs.Layout.{items, Sound}
use Rattle.wire.proofs.Layouts.{sound_more}
use Rattle.graph.specs.Format.{target_width}
use Rattle.graph.specs.Layouts.{target_layout, TargetOk}
use Rattle.halves.specs.Held.{held}
use Rattle.targets.specs.Below.{below}
use Rattle.targets.proofs.Below.{below_turn, below_none}
use Rattle.targets.proofs.least_with.Goals as goal
use Rattle.targets.proofs.least_with.Goals.{After-below_infinite-one, In-loop-p}

pub loop-p-init : goal.loop-p-init
loop-p-init c =
    let a = c.args in
    let (i, e, sound) = c.requires.whole_number in (
      i,
      e,
      sound,
      omega arith,
      λ k whole.
          let same : i ≡ k = omega arith in
          rw same,
    )

-- the next target is sound, and so are those behind it; there is one
here : (c : In-loop-p) → let a = c.args in let l = c.loop-p in
    TargetOk a.s.now a.n l.p × Sound (target_layout a.s.now a.n) (l.invariant.0 - 1) (l.p + target_width) × (0 < l.invariant.0)
here c =
    let l = c.loop-p in
    let some : 0 < l.invariant.0 = omega (arith, c.loop-p-test.true, l.invariant.1) in
    let parts = sound_more _ some l.invariant.2 in
    (parts.0, parts.1, some)

pub below_infinite-one-requires : goal.below_infinite-one-requires
below_infinite-one-requires c = record { target_ok = (here c).0; n_in_bounds = c.requires.n_in_bounds }

-- with it, those left make the whole
turn : (c : After-below_infinite-one) (next k : ℕ) → let a = c.args in let l = c.loop-p in
    let L = target_layout a.s.now a.n in
    next ≡ min l.least c.below_infinite-one.result → a.at + k * target_width ≡ a.end
    → min next (below (held a.x.now) (items L (l.invariant.0 - 1) (l.p + target_width))) ≡ min a.before (below (held a.x.now) (items L k a.at))
turn c next k e whole =
    let a = c.args in
    let l = c.loop-p in
    let i = l.invariant.0 in
    let some : 0 < i = omega (arith, c.loop-p-test.true, l.invariant.1) in
    below_turn a.s.now a.n 1 i l.p (i - 1) (l.p + target_width) (omega arith) refl (held a.x.now) l.least next _ (l.invariant.4 k whole) (omega (arith, e, c.below_infinite-one.ensures))

pub returns-then-one-eq0 : goal.returns-then-one-eq0
returns-then-one-eq0 c k whole = omega (arith, turn (goal.at.returns-then-one-eq0 c).After-below_infinite-one 0 k (omega (arith, c.if-one-eq0.true)) whole)

pub overflow_add-p : goal.overflow_add-p
overflow_add-p c = omega (arith, (here (goal.at.overflow_add-p c).In-loop-p).0.inside)

pub loop-p-smaller : goal.loop-p-smaller
loop-p-smaller c = omega (arith, (here (goal.at.loop-p-smaller c).In-loop-p).2, c.loop-p.invariant.1)

pub loop-p-preserved : goal.loop-p-preserved
loop-p-preserved c =
    let l = c.loop-p in (
      l.invariant.0 - 1,
      omega (arith, (here (goal.at.loop-p-preserved c).In-loop-p).2, l.invariant.1),
      (here (goal.at.loop-p-preserved c).In-loop-p).1,
      omega (arith, c.min-least.ensures, l.invariant.3),
      λ k whole. turn (goal.at.loop-p-preserved c).After-below_infinite-one _ k c.min-least.ensures whole,
    )

pub returns : goal.returns
returns c k whole =
    let a = c.args in
    let l = c.loop-p in
    omega (arith, l.invariant.3, l.invariant.4 k whole, below_none a.s.now a.n (held a.x.now) l.invariant.0 l.p (omega (arith, l.invariant.1)))
