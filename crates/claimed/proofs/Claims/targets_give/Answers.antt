-- `Claims::targets_give` meets its contract: the targets that are left are sound exactly where all are, and the greatest so far and theirs make
-- the whole.
use Rattle.std.proofs.Common.{◌≡◌, ℕ, ◌+◌, ◌-◌, ◌*◌, ◌<◌, ◌≤◌, min, max, length, sym, ap, ◌∙◌, ap₂, arith}
use Rattle.value.specs.Value.{plus}
use Rattle.value.specs.Stored.{stored, meaning, infinite}
use Rattle.value.proofs.Stored.{stored_plus, stored_le}
use Rattle.wire.specs.Bytes.{number}
use Rattle.wire.specs.Field.{long_width}
use Rattle.wire.specs.Layout.{items}
use Rattle.rules.specs.Rounds.{worst}
use Rattle.graph.specs.Format.{node_at, target_width}
use Rattle.graph.specs.Layouts.{target_layout, TargetOk}
use Rattle.graph.proofs.Worst.{worst_turn, worst_end}
use Rattle.support.specs.Claims.{claim_width, claimed_value}
use Rattle.claimed.proofs.Targets.{Rest, rest_all, rest_more, rest_odd, rest_none, named_rest}
use Rattle.claimed.proofs.Claims.targets_give.Goals as goal
use Rattle.claimed.proofs.Claims.targets_give.Goals.{After-value-value, Else-self-node, Else-sum-value, In-loop-p}

-- the next target lies inside
inside : (c : In-loop-p) → let a = c.args in (c.loop-p.p + target_width ≤ a.end) × (a.end ≤ length a.s.now)
inside c =
    let b = c.requires in
    let (i, e, r, w) = c.loop-p.invariant b.count b.whole in
    (omega (arith, c.loop-p-test.true), b.inside)

-- some target is left
some : (c : In-loop-p) {i : ℕ} → c.loop-p.p + i * target_width ≡ c.args.end → 0 < i
some c e = omega (arith, c.loop-p-test.true)

-- it is sound
sound : (c : Else-self-node) → c.loop-p.p + target_width ≤ length c.args.s.now → let a = c.args in TargetOk a.s.now a.self.nodes c.loop-p.p
sound c inside = record { inside = inside; named = omega (arith, c.if-self-node.false, c.number_at-node.ensures) }

-- its weight and its claimed value make
sum_is : (c : After-value-value) → let s = c.args.s.now in let p = c.loop-p.p in
    stored (plus (number 4 s p) (claimed_value c.args.self.bytes.now (number 2 s (p + node_at))))
    ≡ min (c.number_at-weight.result + c.value-value.result) infinite
sum_is c =
    let a = c.args in
    ap₂ (λ (w x : ℕ). stored (plus w (meaning x))) (sym c.number_at-weight.ensures)
    (sym (c.value-value.ensures ∙ ap (λ (u : ℕ). number long_width a.self.bytes.now (u * claim_width)) c.number_at-node.ensures))
    ∙ stored_plus c.number_at-weight.result c.value-value.result (omega arith)

pub loop-p-init : goal.loop-p-init
loop-p-init c k e = (k, e, rest_all _ k _, omega arith)

pub number_at-weight-requires : goal.number_at-weight-requires
number_at-weight-requires c = omega (arith, inside c)

pub overflow_add-p : goal.overflow_add-p
overflow_add-p c = omega (arith, inside (goal.at.overflow_add-p c).In-loop-p)

pub number_at-node-requires : goal.number_at-node-requires
number_at-node-requires c = omega (arith, inside (goal.at.number_at-node-requires c).In-loop-p)

pub returns-then-self-node : goal.returns-then-self-node
returns-then-self-node c k e =
    let (i, q, r, w) = c.loop-p.invariant k e in
    rest_odd r (some (goal.at.returns-then-self-node c).In-loop-p q) (λ ok. omega (arith, c.if-self-node.true, c.number_at-node.ensures, ok.named))

pub overflow_add-p-in-loop-p : goal.overflow_add-p-in-loop-p
overflow_add-p-in-loop-p c = omega (arith, inside (goal.at.overflow_add-p-in-loop-p c).In-loop-p)

pub rest_named-requires : goal.rest_named-requires
rest_named-requires c =
    let b = c.requires in
    let (i, e, r, w) = c.loop-p.invariant b.count b.whole in
    record { inside = b.inside; count = i - 1; whole = omega (arith, some (goal.at.rest_named-requires c).In-loop-p e) }

pub returns-then-sum-value : goal.returns-then-sum-value
returns-then-sum-value c k e =
    let at = goal.at.returns-then-sum-value c in
    let (i, q, r, w) = c.loop-p.invariant k e in
    let h = some at.In-loop-p q in
    let a = c.args in
    let x = claimed_value a.self.bytes.now in
    let gives = worst x (items (target_layout a.s.now a.self.nodes) k a.at) in
    let sum : stored (plus (number 4 a.s.now c.loop-p.p) (x (number 2 a.s.now (c.loop-p.p + node_at)))) ≡ infinite =
    omega (arith, sum_is at.After-value-value, c.if-sum-value.true) in
    let whole = worst_turn a.s.now a.self.nodes x i _ c.loop-p.most (max c.loop-p.most infinite) _ w h (ap (max c.loop-p.most) (sym sum)) in
    named_rest (stored gives) a.end (rest_more r h (sound at.Else-self-node (omega (arith, inside at.In-loop-p)))) (omega (arith, whole, stored_le gives))
    c.rest_named.result (c.rest_named.ensures (i - 1) (omega arith))

-- one more target is done, and the greatest is the greater of the one so far and its sum
more : (c : In-loop-p) (sum most : ℕ) → let a = c.args in let x = claimed_value a.self.bytes.now in let p = c.loop-p.p in
    TargetOk a.s.now a.self.nodes p → stored (plus (number 4 a.s.now p) (x (number 2 a.s.now (p + node_at)))) ≡ sum → most ≡ max c.loop-p.most sum
    → ((k : ℕ) → a.at + k * target_width ≡ a.end
    → (i : ℕ) × ((p + target_width) + i * target_width ≡ a.end) × Rest (target_layout a.s.now a.self.nodes) k a.at i (p + target_width)
    × (max most (stored (worst x (items (target_layout a.s.now a.self.nodes) i (p + target_width)))) ≡ stored (worst x (items (target_layout a.s.now a.self.nodes) k a.at))))
more c sum most ok gives is k e =
    let (i, q, r, w) = c.loop-p.invariant k e in
    let h = some c q in
    (i - 1, omega arith, rest_more r h ok, worst_turn _ _ _ i _ c.loop-p.most most _ w h (omega (arith, gives, is)))

pub loop-p-smaller-then-most-sum : goal.loop-p-smaller-then-most-sum
loop-p-smaller-then-most-sum c = omega (arith, inside (goal.at.loop-p-smaller-then-most-sum c).In-loop-p)

pub loop-p-preserved-then-most-sum : goal.loop-p-preserved-then-most-sum
loop-p-preserved-then-most-sum c =
    let at = goal.at.loop-p-preserved-then-most-sum c in
    more at.In-loop-p (c.value-value.result + c.number_at-weight.result) _ (sound at.Else-self-node (omega (arith, inside at.In-loop-p))) (omega (arith, sum_is at.After-value-value, c.if-sum-value.false)) (omega (arith, c.if-sum-value.false, c.if-most-sum.true))

pub loop-p-smaller : goal.loop-p-smaller
loop-p-smaller c = omega (arith, inside (goal.at.loop-p-smaller c).In-loop-p)

pub loop-p-preserved : goal.loop-p-preserved
loop-p-preserved c =
    let at = goal.at.loop-p-preserved c in
    more at.In-loop-p (c.value-value.result + c.number_at-weight.result) _ (sound at.Else-self-node (omega (arith, inside at.In-loop-p)))
    (omega (arith, sum_is at.After-value-value, c.if-sum-value.false)) (omega (arith, c.if-sum-value.false, c.if-most-sum.false))

pub returns : goal.returns
returns c k e =
    let (i, q, r, w) = c.loop-p.invariant k e in
    let none : i ≡ 0 = omega (arith, c.loop-p-test.false) in
    (rest_none r none, worst_end _ _ _ i _ _ _ w none, omega (arith, c.loop-p-test.false))
