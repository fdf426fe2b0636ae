-- `transitions::views::Look::is_near_of` meets its contract: what wraps is within the range's width only where the action is in the range.
use Rattle.std.proofs.Common.{ℕ, leb, sym, ap, ◌∙◌, arith}
use Rattle.wire.specs.Bytes.{Bytes}
use Rattle.transitions.proofs.Sides.{any_action, in_range, out_of_range}
use Rattle.transitions.proofs.views.Look.is_near_of.Goals as goal
use Rattle.transitions.proofs.views.Look.is_near_of.Goals.{After-number_at-weight}

-- the bytes of the model
bytes : (c : After-number_at-weight) → Bytes c.args.m.now
bytes c i = omega (arith, c.type_inv.m i)

pub returns-then-self-ge-MOST_ACTION : goal.returns-then-self-ge-MOST_ACTION
returns-then-self-ge-MOST_ACTION c =
    let a = c.args in
    ap (λ (w : ℕ). leb w a.self.most) c.number_at-weight.ensures
    ∙ sym (any_action a.m.now (bytes (goal.at.returns-then-self-ge-MOST_ACTION c).After-number_at-weight) a.at a.both c.requires.both_value a.self.low a.self.high _ c.if-self-eq0.true c.if-self-ge-MOST_ACTION.true)

pub returns-then-width-above : goal.returns-then-width-above
returns-then-width-above c =
    let a = c.args in
    let sub = c.wrapping_sub_u64-above in
    sym
    (out_of_range a.m.now (bytes (goal.at.returns-then-width-above c).After-number_at-weight) a.at a.both c.requires.both_value
    a.self.low a.self.high sub.result a.self.ordered (omega arith) sub.ensures.value _ (omega arith) c.if-width-above.true)

pub returns : goal.returns
returns c =
    let a = c.args in
    let sub = c.wrapping_sub_u64-above in
    ap (λ (w : ℕ). leb w a.self.most) c.number_at-weight.ensures
    ∙ sym
    (in_range a.m.now (bytes (goal.at.returns c).After-number_at-weight) a.at a.both c.requires.both_value
    a.self.low a.self.high sub.result a.self.ordered (omega arith) sub.ensures.value _ c.if-width-above.false)
