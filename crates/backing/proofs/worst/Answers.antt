-- `backing::worst` meets its contract: the greatest so far, and that of the targets left, make the whole.
use Prim.Native.Nat.{max}
use mathlib.Core.Path.{ap, ◌∙◌}
use native.Mathlib.Omega.{arith}
use Rattle.value.proofs.Stored.{stored_le, greatest_max, is_stored_le}
use Rattle.wire.specs.Layout.{items}
use Rattle.wire.proofs.Layouts.{sound_more}
use Rattle.rules.specs.Rounds as rules
use Rattle.graph.specs.Layouts.{target_layout, TargetOk}
use Rattle.graph.proofs.Worst.{worst_turn, worst_end}
use Rattle.support.specs.Claims.{claimed_value}
use Rattle.backing.proofs.worst.Goals as goal
use Rattle.backing.proofs.worst.Goals.{In-loop-i}

-- the next target is sound
here : (c : In-loop-i) → let a = c.args in TargetOk a.s.now a.claims.nodes c.loop-i.p
here c = (sound_more _ c.loop-i-test.true c.loop-i.invariant.0).0

pub loop-i-init : goal.loop-i-init
loop-i-init c = (c.requires, omega arith, omega arith)

-- the greatest is infinite already
pub returns-then-most : goal.returns-then-most
returns-then-most c =
    let l = c.loop-i in
    let a = c.args in
    let rest = stored_le (rules.worst (claimed_value a.claims.bytes.now) (items (target_layout a.s.now a.claims.nodes) l.i l.p)) in
    omega (arith, c.if-most.true, l.invariant.2)

pub target_sum-requires : goal.target_sum-requires
target_sum-requires c = here (goal.at.target_sum-requires c).In-loop-i

pub overflow_add-p : goal.overflow_add-p
overflow_add-p c = omega (arith, (here (goal.at.overflow_add-p c).In-loop-i).inside)

pub loop-i-preserved : goal.loop-i-preserved
loop-i-preserved c =
    let l = c.loop-i in
    let sum = c.target_sum.ensures in
    let most = c.greatest-most.ensures ∙ greatest_max l.most.0 c.target_sum.result.0 l.invariant.1 (is_stored_le _ sum) in (
      (sound_more _ c.loop-i-test.true l.invariant.0).1,
      is_stored_le _ c.greatest-most.ensures,
      worst_turn _ _ _ _ _ _ _ _ l.invariant.2 c.loop-i-test.true (most ∙ ap (max l.most.0) sum),
    )

pub returns : goal.returns
returns c = worst_end _ _ _ _ _ _ _ c.loop-i.invariant.2 (omega arith)
