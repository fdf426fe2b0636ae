-- `ranks::write` meets its contract: a refused message, a cycle through a cover edge, too little room, or claims that are accepted.
use Rattle.std.proofs.Common.{sym, inl, inr, ⊎_elim, arith}
use Rattle.std.proofs.lemmas.Result.{err_from_is_err_and}
use Rattle.wire.specs.Bytes.{Bytes}
use Rattle.rules.specs.Walks.{CoverCycle}
use Rattle.graph.specs.Layouts.{decoded}
use Rattle.graph.proofs.Ready.{Begin, begin}
use Rattle.claims.proofs.Answering.{begun_nodes, begun_covers}
use Rattle.ranks.proofs.Answering.{written_refused, written_cyclic, written_narrow, written_filled}
use Rattle.ranks.proofs.write.Goals as goal
use Rattle.ranks.proofs.write.Goals.{After-check, Else-has_cycle, In_ok-counts, then-claims-nodes-via-then-claims-nodes, then-claims-nodes-via-else-claims-nodes+then-words-nodes}

-- the message is bytes, and is accepted
bytes : (c : After-check) → Bytes c.args.message.now
bytes c i = omega (arith, c.type_inv.message i)

begun : (c : In_ok-counts) → Begin c.args.message.now c.in_ok-counts.counts.nodes c.in_ok-counts.counts.hypers c.in_ok-counts.counts.covers
begun c = begin _ (λ i. omega (arith, c.type_inv.message i)) (sym c.in_ok-counts.ensures)

pub past_hypers-requires : goal.past_hypers-requires
past_hypers-requires c = (begun (goal.at.past_hypers-requires c).In_ok-counts).ready.sound.hypers

pub invariant_of-graph : goal.invariant_of-graph
invariant_of-graph c = record { ready = (begun (goal.at.invariant_of-graph c).In_ok-counts).ready; behind = c.past_hypers.ensures }

pub has_cycle-requires : goal.has_cycle-requires
has_cycle-requires c = let at = goal.at.has_cycle-requires c in
    record { few = ((begun_nodes (bytes at.After-check) (begun at.In_ok-counts)).1, begun_covers (bytes at.After-check) (begun at.In_ok-counts)) }

pub returns-then-has_cycle : goal.returns-then-has_cycle
returns-then-has_cycle c = let at = goal.at.returns-then-has_cycle c in
    let it = written_cyclic _ _ _ (bytes at.After-check) (begun at.In_ok-counts) (c.has_cycle.ensures.0 c.if-has_cycle.true) in record { answer = it.0; promise = it.1 }

-- no cycle passes through a cover edge
free : (c : Else-has_cycle) → ¬ CoverCycle (decoded c.args.message.now c.in_ok-counts.counts.nodes c.in_ok-counts.counts.hypers c.in_ok-counts.counts.covers)
free c = c.has_cycle.ensures.1 c.if-has_cycle.false

pub returns-then-claims-nodes : goal.returns-then-claims-nodes
unfolding decoded
returns-then-claims-nodes c =
    let at = goal.at.returns-then-claims-nodes c in
    let it = written_narrow _ _ _ (bytes at.After-check) (begun at.In_ok-counts) (free at.Else-has_cycle) (elim c.then-claims-nodes.branch [
      | then-claims-nodes-via-then-claims-nodes w ↦ inl w.if-claims-nodes.true
      | then-claims-nodes-via-else-claims-nodes+then-words-nodes w ↦ inr w.if-words-nodes.true
    ]) in
    record { answer = it.0; promise = it.1 }

pub fill-requires-clause-nodes_few : goal.fill-requires-clause-nodes_few
fill-requires-clause-nodes_few c = let at = goal.at.fill-requires-clause-nodes_few c in (begun_nodes (bytes at.After-check) (begun at.In_ok-counts)).1

pub returns-in_err-counts : goal.returns-in_err-counts
returns-in_err-counts c =
    let p = err_from_is_err_and c.from_residual.result c.from_residual.ensures.1 in
    let it = written_refused _ _ _ (bytes (goal.at.returns-in_err-counts c).After-check) (sym c.in_err-counts.ensures) in
    rw (p.1, p.2) (record { answer = it.0; promise = it.1 })

pub returns : goal.returns
unfolding decoded
returns c =
    let at = goal.at.returns c in
    let it = written_filled _ _ _ (bytes at.After-check) (begun at.In_ok-counts) (free at.Else-has_cycle)
    (⊎_elim (λ l. omega (arith, c.if-claims-nodes.false)) (λ l. omega (arith, c.if-words-nodes.false))) c.fill.ensures in
    record { answer = it.0; promise = it.1 }
