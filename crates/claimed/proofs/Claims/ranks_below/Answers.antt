-- `Claims::ranks_below` meets its contract: the targets passed have a smaller rank.
use Rattle.std.proofs.Common.{◌≡◌, ℕ, ◌+◌, ◌-◌, ◌*◌, ◌<◌, ◌≤◌, refl, ap, ◌∙◌, true≢false, arith}
use Rattle.lists.proofs.Tests.{clash}
use Rattle.wire.specs.Bytes.{number}
use Rattle.wire.specs.Layout.{Sound}
use Rattle.graph.specs.Format.{node_at, target_width}
use Rattle.graph.specs.Layouts.{target_layout, TargetOk}
use Rattle.support.specs.Claims.{claimed_rank}
use Rattle.support.proofs.Passing.{passing_all, passing_here, passing_one, passing_turn, passing_done}
use Rattle.claimed.proofs.Claims.ranks_below.Goals as goal
use Rattle.claimed.proofs.Claims.ranks_below.Goals.{After-rank-other, In-loop-p, Start}

-- all targets are sound, however they are counted
sound : (c : Start) (k : ℕ) → c.args.at + k * target_width ≡ c.args.end → Sound (target_layout c.args.s.now c.args.self.nodes) k c.args.at
sound c k e = let (j, q, whole) = c.requires in let same : j ≡ k = omega arith in rw same at whole

-- the next target is sound, and there is one
here : (c : In-loop-p) → let a = c.args in TargetOk a.s.now a.self.nodes c.loop-p.p × (c.loop-p.p + target_width ≤ a.end)
here c =
    let (k, e, whole) = c.requires in
    let (i, q, w) = c.loop-p.invariant k e whole in
    (passing_here w (omega (arith, c.loop-p-test.true)), omega (arith, c.loop-p-test.true))

-- its rank is what was read
rank_is : (c : After-rank-other) → let a = c.args in
    c.rank-other.result ≡ claimed_rank a.self.bytes.now (number 2 a.s.now (c.loop-p.p + node_at))
rank_is c = c.rank-other.ensures ∙ ap (claimed_rank c.args.self.bytes.now) c.number_at-node.ensures

pub loop-p-init : goal.loop-p-init
loop-p-init c k e whole = (k, e, passing_all whole)

pub overflow_add-p : goal.overflow_add-p
overflow_add-p c = omega (arith, (here c).0.inside)

pub number_at-node-requires : goal.number_at-node-requires
number_at-node-requires c = omega (arith, (here c).0.inside)

pub rank-other-requires : goal.rank-other-requires
rank-other-requires c = omega (arith, c.number_at-node.ensures, (here (goal.at.rank-other-requires c).In-loop-p).0.named)

pub overflow_add-p-in-loop-p : goal.overflow_add-p-in-loop-p
overflow_add-p-in-loop-p c = omega (arith, (here (goal.at.overflow_add-p-in-loop-p c).In-loop-p).0.inside)

pub returns-then-rank-other : goal.returns-then-rank-other
returns-then-rank-other c k e =
    let (i, q, w) = c.loop-p.invariant k e (sound (goal.at.returns-then-rank-other c).Start k e) in (
      λ e. clash e refl,
      λ e all. omega (arith, c.if-rank-other.true, rank_is (goal.at.returns-then-rank-other c).After-rank-other, all _ (passing_one w (omega (arith, c.loop-p-test.true)))),
    )

pub loop-p-smaller : goal.loop-p-smaller
loop-p-smaller c = omega (arith, (here (goal.at.loop-p-smaller c).In-loop-p).1)

pub loop-p-preserved : goal.loop-p-preserved
loop-p-preserved c k e whole =
    let (i, q, w) = c.loop-p.invariant k e whole in
    let some : 0 < i = omega (arith, c.loop-p-test.true) in
    (i - 1, omega arith, passing_turn w some (λ t d. d) (omega (arith, c.if-rank-other.false, rank_is (goal.at.loop-p-preserved c).After-rank-other)))

pub returns : goal.returns
returns c k e =
    let (i, q, w) = c.loop-p.invariant k e (sound (goal.at.returns c).Start k e) in
    (λ z. passing_done w (omega arith), λ z. absurd (true≢false z))
