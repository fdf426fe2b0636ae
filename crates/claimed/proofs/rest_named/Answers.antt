-- `claimed::rest_named` meets its contract: the targets that are left are sound exactly where all are.
use Rattle.std.proofs.Common.{◌≡◌, ℕ, ◌+◌, ◌-◌, ◌*◌, ◌<◌, ◌≤◌, length, refl, arith}
use Rattle.graph.specs.Format.{target_width}
use Rattle.graph.specs.Layouts.{TargetOk}
use Rattle.claimed.proofs.Targets.{rest_all, rest_more, rest_odd, rest_none}
use Rattle.claimed.proofs.rest_named.Goals as goal
use Rattle.claimed.proofs.rest_named.Goals.{In-loop-p}

-- the next target lies inside
inside : (c : In-loop-p) → let a = c.args in (c.loop-p.p + target_width ≤ a.end) × (a.end ≤ length a.s.now)
inside c =
    let b = c.requires in
    let (i, e, r) = c.loop-p.invariant b.count b.whole in
    (omega (arith, c.loop-p-test.true), b.inside)

pub loop-p-init : goal.loop-p-init
loop-p-init c k e = (k, e, rest_all _ k _)

pub overflow_add-p : goal.overflow_add-p
overflow_add-p c = omega (arith, inside c)

pub number_at-node-requires : goal.number_at-node-requires
number_at-node-requires c = omega (arith, inside c)

pub overflow_add-p-in-loop-p : goal.overflow_add-p-in-loop-p
overflow_add-p-in-loop-p c = omega (arith, inside (goal.at.overflow_add-p-in-loop-p c).In-loop-p)

-- some target is left
some : (c : In-loop-p) {i : ℕ} → c.loop-p.p + i * target_width ≡ c.args.end → 0 < i
some c e = omega (arith, c.loop-p-test.true)

pub returns-then-n-node : goal.returns-then-n-node
returns-then-n-node c k e =
    let (i, q, r) = c.loop-p.invariant k e in
    rest_odd r (some (goal.at.returns-then-n-node c).In-loop-p q) (λ ok. omega (arith, c.if-n-node.true, c.number_at-node.ensures, ok.named))

pub loop-p-smaller : goal.loop-p-smaller
loop-p-smaller c = omega (arith, inside (goal.at.loop-p-smaller c).In-loop-p)

pub loop-p-preserved : goal.loop-p-preserved
loop-p-preserved c k e =
    let (i, q, r) = c.loop-p.invariant k e in
    let ok : TargetOk c.args.s.now c.args.n c.loop-p.p =
    record { inside = omega (arith, inside (goal.at.loop-p-preserved c).In-loop-p); named = omega (arith, c.if-n-node.false, c.number_at-node.ensures) } in
    (i - 1, omega (arith, some (goal.at.loop-p-preserved c).In-loop-p q), rest_more r (some (goal.at.loop-p-preserved c).In-loop-p q) ok)

pub returns : goal.returns
returns c k e =
    let (i, q, r) = c.loop-p.invariant k e in
    (rest_none r (omega arith), refl, omega arith)
