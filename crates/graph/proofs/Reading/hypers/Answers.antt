-- `graph::Reading::hypers` meets its contract: what is left is read as all are, and one that is read by itself is a turn of that reading.
use Rattle.std.proofs.Common.{◌∙◌, sym, rules, arith}
use Rattle.wire.proofs.Reading as reading
use Rattle.wire.proofs.Turns.{turn_next, turn_refused, turn_none}
use Rattle.graph.proofs.Good.{hypers_stay}
use Rattle.graph.specs.Near.{ReadsAs}
use Rattle.graph.proofs.Reading.hypers.Goals as goal
use Rattle.graph.proofs.Reading.hypers.Goals.{After-onward-rest}

pub returns-in_err-st : goal.returns-in_err-st
returns-in_err-st c =
    reading.passed c.from_residual.ensures ∙ turn_refused _ _ _ _ c.loop-rest.invariant.2 c.loop-rest-test.true c.in_err-st.ensures

pub onward-rest-requires : goal.onward-rest-requires
onward-rest-requires c =
    let stay = hypers_stay _ _ _ _ (sym c.in_ok-st.ensures) in
    (stay.0, stay.1, omega (arith, stay.2))

pub overflow_add-alone_until : goal.overflow_add-alone_until
overflow_add-alone_until c = let stay = hypers_stay _ _ _ _ (sym c.in_ok-st.ensures) in let inside = stay.0 in search rules

-- a turn: one was read by itself, and what is left of those behind it is read as they are
turn : (c : After-onward-rest) → ReadsAs c.args.self.bytes.now c.args.self.nodes (record { st = c.args.first; left = c.args.k }) c.onward-rest.result
turn c =
    let on = c.onward-rest.ensures in
    let so_far = c.loop-rest.invariant in
    (on.0, omega (arith, on.1, so_far.1), on.2 ∙ turn_next _ _ _ _ so_far.2 c.loop-rest-test.true c.in_ok-st.ensures)

pub loop-rest-preserved-then-alone_until-st : goal.loop-rest-preserved-then-alone_until-st
loop-rest-preserved-then-alone_until-st c = turn (goal.at.loop-rest-preserved-then-alone_until-st c).After-onward-rest

pub loop-rest-preserved : goal.loop-rest-preserved
loop-rest-preserved c = turn (goal.at.loop-rest-preserved c).After-onward-rest

pub returns : goal.returns
returns c = turn_none _ _ _ _ c.loop-rest.invariant.2 (omega (arith, c.loop-rest-test.false))
