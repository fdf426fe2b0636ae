-- `graph::check` meets its contract: the header, the hyperedges, the cover edges, and nothing after them.
use Rattle.std.proofs.Common.{◌≡◌, ◌≤◌, length, inl, inr, sym, arith}
use Rattle.wire.specs.Reader.{run}
use Rattle.wire.specs.Begin.{start}
use Rattle.wire.specs.Read.{Ok}
use Rattle.wire.specs.declared.State.{State}
use Rattle.wire.proofs.Fields.{value_inside}
use Rattle.wire.proofs.Reading.{reading, passed, bind_good}
use Rattle.wire.proofs.Judged.{bind_bad}
use Rattle.wire.proofs.Readers.{run_good, run_bad, run_keeps, all_length}
use Rattle.graph.specs.Format.{graph_header, covers_count, most_targets}
use Rattle.graph.specs.Message.{read_graph}
use Rattle.graph.specs.Message as m
use Rattle.graph.specs.Answers.{checked}
use Rattle.graph.proofs.Good.{HeaderAt, header_good, hypers_stay, targets_told}
use Rattle.graph.proofs.check.Goals as goal
use Rattle.graph.proofs.check.Goals.{In_ok-counts, In_ok-last}

-- the header is good, and so are the hyperedges
headed : (c : In_ok-counts) → HeaderAt c.args.s.now c.in_ok-counts.counts
headed c = header_good _ _ (sym c.in_ok-counts.ensures)

inside : (c : In_ok-counts) → graph_header ≤ length c.args.s.now
inside c = value_inside 2 c.args.s.now covers_count.at (headed c).c_counted.there

hypers_ran : (c : In_ok-last) → let k = c.in_ok-counts.counts in run (m.hypers c.args.s.now k.nodes) k.hypers (start graph_header) ≡ Ok c.in_ok-last.last
hypers_ran c = rw c.start.ensures at (sym c.in_ok-last.ensures)

pub returns-in_err-counts : goal.returns-in_err-counts
unfolding read_graph checked
returns-in_err-counts c = simp (passed c.from_residual.ensures, reading, sym c.in_err-counts.ensures)

pub invariant_of-reading : goal.invariant_of-reading
invariant_of-reading c = record {
  few_nodes = (headed (goal.at.invariant_of-reading c).In_ok-counts).n_counted.no_more;
  are_bytes = λ i. omega (arith, c.type_inv.s i);
}

pub hypers-requires : goal.hypers-requires
hypers-requires c =
    let o = (goal.at.hypers-requires c).In_ok-counts in
    rw c.start.ensures (inside o, omega arith, omega arith)

pub returns-in_err-last : goal.returns-in_err-last
unfolding read_graph checked
returns-in_err-last c =
    let fault = run_bad _ _ _ _ (rw c.start.ensures at (sym c.in_err-last.ensures)) in
    simp (passed c.from_residual-in_err-last.ensures, reading, sym c.in_ok-counts.ensures, fault)

pub covers_to_end-requires : goal.covers_to_end-requires
covers_to_end-requires c =
    let s = c.args.s.now in
    let o = (goal.at.covers_to_end-requires c).In_ok-counts in
    run_keeps _ (λ (st : State). st.at ≤ length s) (λ st next e. (hypers_stay _ _ st next e).0) _ _ _ (inside o) (hypers_ran (goal.at.covers_to_end-requires c).In_ok-last)

pub returns-in_err-covers_to_end : goal.returns-in_err-covers_to_end
unfolding read_graph checked
returns-in_err-covers_to_end c =
    let hs = run_good _ _ _ _ (hypers_ran (goal.at.returns-in_err-covers_to_end c).In_ok-last) in
    let stopped = bind_bad _ _ (sym c.in_err-covers_to_end.ensures) in
    elim stopped [
      | inl early ↦ simp (passed c.from_residual-in_err-covers_to_end.ensures, reading, sym c.in_ok-counts.ensures, hs.there, hs.ends, run_bad _ _ _ _ early)
      | inr late ↦
          let cs = run_good _ _ _ _ late.first in
          simp (passed c.from_residual-in_err-covers_to_end.ensures, reading, sym c.in_ok-counts.ensures, hs.there, hs.ends, cs.there, cs.ends, late.rest)
    ]

pub overflow_cast-result : goal.overflow_cast-result
overflow_cast-result c =
    let ran = hypers_ran (goal.at.overflow_cast-result c).In_ok-last in
    omega (arith, run_keeps _ (λ (st : State). st.seen ≤ most_targets) (λ st next e. (hypers_stay _ _ st next e).1) _ _ _ (omega arith) ran)

pub returns : goal.returns
unfolding read_graph checked
returns c =
    let hs = run_good _ _ _ _ (hypers_ran (goal.at.returns c).In_ok-last) in
    let whole = bind_good _ _ (sym c.in_ok-covers_to_end.ensures) in
    let cs = run_good _ _ _ _ whole.first in
    simp (
      reading,
      sym c.in_ok-counts.ensures,
      hs.there,
      hs.ends,
      cs.there,
      cs.ends,
      whole.rest,
      all_length _ _ _ _ hs.there,
      all_length _ _ _ _ cs.there,
      targets_told _ _ _ hs.got hs.ends,
    )
