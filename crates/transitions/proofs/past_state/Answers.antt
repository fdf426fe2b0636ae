-- `transitions::past_state` meets its contract: those passed, and those at the front of the rest, are all at the front.
use Rattle.std.proofs.Common.{◌≡◌, ap, ◌∙◌, arith}
use Rattle.wire.specs.Bytes.{number}
use Rattle.model.specs.Format.{transition_at}
use Rattle.transitions.proofs.Ranges.{leading_more, leading_stop, leading_none}
use Rattle.transitions.proofs.past_state.Goals as goal
use Rattle.transitions.proofs.past_state.Goals.{After-number_at-from}

pub loop-i-init : goal.loop-i-init
loop-i-init c = let r = c.pass_some-passed.ensures in (r.0, r.1, r.2)

pub number_at-from-requires : goal.number_at-from-requires
number_at-from-requires c = omega (arith, c.transition_at-at.ensures, c.args.m.holds.long)

-- what was read is where the transition leaves from
read : (c : After-number_at-from) →
    let a = c.args in
    c.number_at-from.result ≡ number 2 a.m.bytes.now (transition_at a.m.states c.loop-i.i)
read c =
    let a = c.args in
    c.number_at-from.ensures ∙ ap (number 2 a.m.bytes.now) c.transition_at-at.ensures

pub returns-then-from-a : goal.returns-then-from-a
returns-then-from-a c =
    let l = c.loop-i in
    let a = c.args in
    let other = leading_stop a.m.bytes.now a.m.states a.m.transitions a.a l.i (omega arith) (omega (arith, read (goal.at.returns-then-from-a c).After-number_at-from)) in
    (omega arith, omega arith, omega arith)

pub loop-i-preserved : goal.loop-i-preserved
loop-i-preserved c =
    let l = c.loop-i in
    let a = c.args in
    let more = leading_more a.m.bytes.now a.m.states a.m.transitions a.a l.i (omega arith) (omega (arith, read (goal.at.loop-i-preserved c).After-number_at-from)) in
    (omega arith, omega arith, omega arith)

pub returns : goal.returns
returns c =
    let l = c.loop-i in
    let a = c.args in
    let none = leading_none a.m.bytes.now a.m.states a.m.transitions a.a l.i (omega arith) in
    (omega arith, omega arith, omega arith)
