-- `targets::worst` meets its contract: the greatest so far, and that of the targets left, make the whole.
use Prim.Native.Nat.{ℕ, ◌+◌, ◌-◌, ◌<◌, max}
use mathlib.Core.Path.{◌≡◌, ap, subst, ◌∙◌}
use native.Mathlib.Omega.{arith}
use Rattle.value.specs.Stored.{stored}
use Rattle.value.proofs.Stored.{stored_le, greatest_max, is_stored_le}
use Rattle.wire.specs.Layout.{items, Sound}
use Rattle.wire.proofs.Layouts.{sound_more}
use Rattle.rules.specs.Rounds as rules
use Rattle.graph.specs.Format.{target_width}
use Rattle.graph.specs.Layouts.{target_layout, TargetOk}
use Rattle.halves.specs.Held.{held}
use Rattle.graph.proofs.Worst.{worst_turn, worst_end}
use Rattle.targets.proofs.worst.Goals as goal
use Rattle.targets.proofs.worst.Goals.{Else-k-eq0, In-loop}

pub returns-then-k-eq0 : goal.returns-then-k-eq0
returns-then-k-eq0 c =
    let a = c.args in
    worst_end a.s.now a.n (held a.x.now) a.k a.at 0 _ (omega arith) c.if-k-eq0.true

-- the first target is sound, and so are those behind it
first : (c : Else-k-eq0) → let a = c.args in
    TargetOk a.s.now a.n a.at × Sound (target_layout a.s.now a.n) (a.k - 1) (a.at + target_width)
first c =
    let some : 0 < c.args.k = omega arith in sound_more _ some c.requires.sound

pub target_sum-most-requires : goal.target_sum-most-requires
target_sum-most-requires c = record { target_ok = (first c).0; n_in_bounds = c.requires.n_in_bounds }

pub overflow_add-p : goal.overflow_add-p
overflow_add-p c = omega (arith, (first (goal.at.overflow_add-p c).Else-k-eq0).0.inside)

pub loop-init : goal.loop-init
loop-init c =
    let a = c.args in
    let some : 0 < a.k = omega arith in (
      (first (goal.at.loop-init c).Else-k-eq0).1,
      is_stored_le _ c.target_sum-most.ensures,
      worst_turn a.s.now a.n (held a.x.now) a.k a.at 0 _ _ (omega arith) some (c.target_sum-most.ensures ∙ omega arith),
    )

-- a target is left, it is sound, and so are those behind it
some : (c : In-loop) → 0 < c.args.k - c.loop.counter
some c = omega (arith, c.loop-test.true)

here : (c : In-loop) → let a = c.args in TargetOk a.s.now a.n c.loop.p × Sound (target_layout a.s.now a.n) (a.k - c.loop.counter - 1) (c.loop.p + target_width)
here c = sound_more _ (some c) c.loop.invariant.0

-- the greatest is infinite already
pub returns-then-most : goal.returns-then-most
returns-then-most c =
    let l = c.loop in
    let a = c.args in
    let rest = stored_le (rules.worst (held a.x.now) (items (target_layout a.s.now a.n) (a.k - l.counter) l.p)) in
    omega (arith, c.if-most.true, l.invariant.2)

pub target_sum-sum-requires : goal.target_sum-sum-requires
target_sum-sum-requires c = record { target_ok = (here (goal.at.target_sum-sum-requires c).In-loop).0; n_in_bounds = c.requires.n_in_bounds }

pub overflow_add-p-in-loop : goal.overflow_add-p-in-loop
overflow_add-p-in-loop c = omega (arith, (here (goal.at.overflow_add-p-in-loop c).In-loop).0.inside)

pub loop-preserved : goal.loop-preserved
loop-preserved c =
    let l = c.loop in
    let a = c.args in
    let L = target_layout a.s.now a.n in
    let there = (goal.at.loop-preserved c).In-loop in
    let sum = c.target_sum-sum.ensures in
    let most = c.greatest-most.ensures ∙ greatest_max l.most.0 c.target_sum-sum.result.0 l.invariant.1 (is_stored_le _ sum) in
    let left : a.k - l.counter - 1 ≡ a.k - (l.counter + 1) = omega arith in
    let next = l.p + target_width in (
      subst (λ (i : ℕ). Sound L i next) left (here there).1,
      is_stored_le _ c.greatest-most.ensures,
      subst (λ (i : ℕ). max c.greatest-most.result.0 (stored (rules.worst (held a.x.now) (items L i next))) ≡ stored (rules.worst (held a.x.now) (items L a.k a.at))) left
          (worst_turn _ _ _ _ _ _ _ _ l.invariant.2 (some there) (most ∙ ap (max l.most.0) sum)),
    )

pub returns : goal.returns
returns c = worst_end _ _ _ _ _ _ _ c.loop.invariant.2 (omega arith)
