-- `rounds::solve` meets its contract: a refused message, too little room, or the rounds on the graph that the message holds.
use Rattle.std.proofs.Common.{sym, arith}
use Rattle.wire.specs.Bytes.{Bytes}
use Rattle.wire.proofs.Reading.{passed}
use Rattle.graph.proofs.Ready.{Begin, begin}
use Rattle.rounds.proofs.Begin.{shown_refused, shown_room, shown_ran}
use Rattle.rounds.proofs.solve.Goals as goal
use Rattle.rounds.proofs.solve.Goals.{After-check, In_ok-counts}

-- the message is bytes, and is accepted
bytes : (c : After-check) → Bytes c.args.message.now
bytes c i = omega (arith, c.type_inv.message i)

begun : (c : In_ok-counts) → Begin c.args.message.now c.in_ok-counts.counts.nodes c.in_ok-counts.counts.hypers c.in_ok-counts.counts.covers
begun c = begin _ (bytes (goal.at.In_ok-counts c).After-check) (sym c.in_ok-counts.ensures)

pub returns-in_err-counts : goal.returns-in_err-counts
returns-in_err-counts c =
    let it = shown_refused _ c.args.budget c.args.room.now (bytes (goal.at.returns-in_err-counts c).After-check) (sym c.in_err-counts.ensures) in
    let is = passed c.from_residual.ensures in
    record { answer = rw is it.0; room = it.1.0; promise = rw is it.1.1 }

pub returns-then-room-nodes : goal.returns-then-room-nodes
returns-then-room-nodes c =
    let it = shown_room _ c.args.budget _ (bytes (goal.at.returns-then-room-nodes c).After-check) (begun (goal.at.returns-then-room-nodes c).In_ok-counts) c.if-room-nodes.true in
    record { answer = it.0; room = it.1.0; promise = it.1.1 }

pub invariant_of-g : goal.invariant_of-g
invariant_of-g c = record { ready = (begun (goal.at.invariant_of-g c).In_ok-counts).ready }

pub returns : goal.returns
returns c =
    let it = shown_ran _ c.args.budget _ (bytes (goal.at.returns c).After-check) (begun (goal.at.returns c).In_ok-counts) _ _ c.if-room-nodes.false c.run.ensures.value c.run.ensures.room_after in
    record { answer = it.0; room = it.1.0; promise = it.1.1 }
