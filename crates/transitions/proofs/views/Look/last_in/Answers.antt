-- `transitions::views::Look::last_in` meets its contract: none of those behind is looked at.
use Rattle.std.proofs.Common.{◌≡◌, ℕ, suc, ◌+◌, ◌-◌, ◌*◌, sym, refl, ap, ◌∙◌, arith}
use Rattle.lists.specs.Making.{keep}
use Rattle.wire.specs.Layout.{items}
use Rattle.model.specs.Format.{transition_width, transition_at}
use Rattle.transitions.specs.Held.{transition_layout}
use Rattle.transitions.specs.Views.{is_near_by}
use Rattle.transitions.proofs.Counting.{last_fails}
use Rattle.transitions.proofs.views.Look.last_in.Goals as goal
use Rattle.transitions.proofs.views.Look.last_in.Goals.{After-is_near}

pub overflow_add-at : goal.overflow_add-at
overflow_add-at c = omega (arith, c.start.ensures, c.args.out.reads.long)

pub loop-i-init : goal.loop-i-init
loop-i-init c = (omega (arith, c.start.ensures), omega arith, refl)

pub is_near-requires : goal.is_near-requires
is_near-requires c = omega (arith, c.loop-i.invariant.0, c.loop-i.invariant.1, c.args.out.reads.long)

-- the one before
judged : (c : After-is_near) → let out = c.args.out in
    c.is_near.result ≡ is_near_by c.args.self ((transition_layout out.bytes.now).item (transition_at out.states out.first + (c.loop-i.i - 1) * transition_width))
judged c =
    let out = c.args.out in
    let here : c.loop-i.at - 10 ≡ transition_at out.states out.first + (c.loop-i.i - 1) * transition_width = omega (arith, c.loop-i.invariant.0) in
    c.is_near.ensures ∙ ap (λ (x : ℕ). is_near_by c.args.self ((transition_layout out.bytes.now).item x)) here

pub returns-then-is_near : goal.returns-then-is_near
returns-then-is_near c =
    let l = c.loop-i in
    let one : l.i - 1 + 1 ≡ l.i = omega arith in
    let last = sym (judged (goal.at.returns-then-is_near c).After-is_near) ∙ c.if-is_near.true in
    rw one (record { some = l.invariant.1; all = l.invariant.2; last = λ h. last })

pub loop-i-preserved : goal.loop-i-preserved
loop-i-preserved c =
    let l = c.loop-i in
    let out = c.args.out in
    let L = transition_layout out.bytes.now in
    let test = is_near_by c.args.self in
    let from = transition_at out.states out.first in
    let one : suc (l.i - 1) ≡ l.i = omega arith in
    let fewer = last_fails L test transition_width (λ x. refl) (l.i - 1) from (sym (judged (goal.at.loop-i-preserved c).After-is_near) ∙ c.if-is_near.false) in
    (omega (arith, l.invariant.0), omega (arith, l.invariant.1), sym fewer ∙ ap (λ (k : ℕ). keep test (items L k from)) one ∙ l.invariant.2)

pub returns : goal.returns
returns c =
    let l = c.loop-i in
    let out = c.args.out in
    let none : l.i ≡ 0 = omega (arith, c.loop-i-test.false) in
    let all = ap (λ (k : ℕ). keep (is_near_by c.args.self) (items (transition_layout out.bytes.now) k (transition_at out.states out.first))) (sym none) ∙ l.invariant.2 in
    record { some = omega arith; all = all; last = λ h. absurd (omega (arith, h)) }
