-- `model::check` meets its contract: the header, the labels, the transitions, which are in order or are read one by one.
use Rattle.std.proofs.Common.{sym, arith}
use Rattle.lists.proofs.Tests.{by}
use Rattle.wire.specs.Begin.{start}
use Rattle.wire.proofs.Reading.{reading, passed}
use Rattle.wire.proofs.Readers.{Ran, run_good, run_bad, all_length}
use Rattle.model.specs.Format.{model_header}
use Rattle.model.specs.Message.{read_model}
use Rattle.model.specs.Message as m
use Rattle.model.specs.Answers.{checked}
use Rattle.model.proofs.Good.{HeaderAt, header_good}
use Rattle.model.proofs.Ordered.{in_order_read}
use Rattle.model.proofs.check.Goals as goal
use Rattle.model.proofs.check.Goals.{In_ok-counts, In_ok-labels}

-- the header is good, and so are the labels
headed : (c : In_ok-counts) → HeaderAt c.args.s.now c.in_ok-counts.counts
headed c = header_good _ _ (sym c.in_ok-counts.ensures)

labelled : (c : In_ok-labels) → let k = c.in_ok-counts.counts in Ran (m.labels c.args.s.now k.propositions) k.states (start model_header) c.in_ok-labels.field-0
labelled c = run_good _ _ _ _ (rw c.start.ensures at (sym c.in_ok-labels.ensures))

pub returns-in_err-counts : goal.returns-in_err-counts
unfolding read_model checked
returns-in_err-counts c = simp (passed c.from_residual.ensures, reading, sym c.in_err-counts.ensures)

pub labels-requires : goal.labels-requires
labels-requires c = let h = headed (goal.at.labels-requires c).In_ok-counts in rw c.start.ensures (omega (arith, h.long), h.propositions_counted.no_more)

pub returns-in_err-labels : goal.returns-in_err-labels
unfolding read_model checked
returns-in_err-labels c =
    let fault = run_bad _ _ _ _ (rw c.start.ensures at (sym c.in_err-labels.ensures)) in
    simp (passed c.from_residual-in_err-labels.ensures, reading, sym c.in_ok-counts.ensures, fault)

pub in_order-requires : goal.in_order-requires
in_order-requires c =
    let h = headed (goal.at.in_order-requires c).In_ok-counts in
    (omega (arith, h.states_counted.no_more), omega (arith, h.long))

pub returns-then-in_order : goal.returns-then-in_order
unfolding read_model checked
returns-then-in_order c =
    let h = headed (goal.at.returns-then-in_order c).In_ok-counts in
    let ls = labelled (goal.at.returns-then-in_order c).In_ok-labels in
    let end = in_order_read _ _ _ _ (omega (arith, h.long)) (by c.in_order.ensures c.if-in_order.true) in
    let ts = run_good _ _ _ _ end.runs in
    simp (reading, sym c.in_ok-counts.ensures, ls.there, ts.there, all_length _ _ _ _ ts.there)

pub transitions-requires : goal.transitions-requires
transitions-requires c =
    let h = headed (goal.at.transitions-requires c).In_ok-counts in
    rw c.start-2.ensures (omega (arith, h.long), omega arith)

pub returns-in_err-transitions : goal.returns-in_err-transitions
unfolding read_model checked
returns-in_err-transitions c =
    let ls = labelled (goal.at.returns-in_err-transitions c).In_ok-labels in
    let fault = run_bad _ _ _ _ (rw c.start-2.ensures at (sym c.in_err-transitions.ensures)) in
    simp (passed c.from_residual-in_err-transitions.ensures, reading, sym c.in_ok-counts.ensures, ls.there, fault)

pub returns : goal.returns
unfolding read_model checked
returns c =
    let ls = labelled (goal.at.returns c).In_ok-labels in
    let ts = run_good _ _ _ _ (rw c.start-2.ensures at (sym c.in_ok-transitions.ensures)) in
    simp (reading, sym c.in_ok-counts.ensures, ls.there, ts.there, all_length _ _ _ _ ts.there)
