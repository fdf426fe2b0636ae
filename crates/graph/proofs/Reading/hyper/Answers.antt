-- `graph::Reading::hyper` meets its contract: source and count are read from the hyperedge's part as from the message.
use Rattle.std.proofs.Common.{◌≡◌, ◌+◌, ◌-◌, sym, ◌∙◌, arith, le-leb}
use borrow.Author.Tests.{lt-leb}
use Rattle.refusal.specs.declared.Refusal.TheVariants.{Limit}
use Rattle.wire.specs.Bytes.{number}
use Rattle.wire.specs.Read.{Ok, below, field, source}
use Rattle.wire.proofs.Fields.{field_value}
use Rattle.wire.proofs.Reading.{reading, passed, below_good, below_over, cut_source, cut_below}
use Rattle.graph.specs.Format.{most_targets, target_count_at, hyper_width}
use Rattle.graph.specs.Message.{read_hyper, read_targets}
use Rattle.graph.proofs.Reading.hyper.Goals as goal
use Rattle.graph.proofs.Reading.hyper.Goals.{In_ok-source, In_ok-count}

source_is : (c : In_ok-source) → let a = c.args in source a.self.bytes.now a.st.at a.self.nodes a.st.prev ≡ Ok c.in_ok-source.source
source_is c =
    let a = c.args in
    sym (c.in_ok-source.ensures ∙ cut_source a.self.bytes.now a.st.at (a.st.at + hyper_width) (omega arith) a.self.nodes a.st.prev a.st.at (omega arith))

count_there : (c : In_ok-source) → let a = c.args in field 2 a.self.bytes.now (a.st.at + target_count_at) ≡ Ok (number 2 a.self.bytes.now (a.st.at + target_count_at))
count_there c = field_value 2 _ _ (omega arith)

count_is : (c : In_ok-count) → let a = c.args in
    below 2 a.self.bytes.now (a.st.at + target_count_at) (most_targets + 1 - a.st.seen) (record { refusal = Limit; offset = a.st.at + target_count_at }) ≡ Ok c.in_ok-count.count
count_is c =
    let a = c.args in
    sym (c.in_ok-count.ensures ∙ cut_below a.self.bytes.now a.st.at (a.st.at + hyper_width) (omega arith) 2 target_count_at _ _ (omega arith))

pub returns-then-self-end : goal.returns-then-self-end
unfolding read_hyper
returns-then-self-end c = simp (reading, lt-leb _ _ c.if-self-end.true)

pub returns-in_err-source : goal.returns-in_err-source
unfolding read_hyper
returns-in_err-source c =
    let a = c.args in
    let fault = c.in_err-source.ensures ∙ cut_source a.self.bytes.now a.st.at (a.st.at + hyper_width) (omega arith) a.self.nodes a.st.prev a.st.at (omega arith) in
    simp (passed c.from_residual.ensures, reading, le-leb _ _ c.if-self-end.false, sym fault)

pub returns-in_err-count : goal.returns-in_err-count
unfolding read_hyper read_targets
returns-in_err-count c =
    let a = c.args in
    let o = (goal.at.returns-in_err-count c).In_ok-source in
    let fault = c.in_err-count.ensures ∙ cut_below a.self.bytes.now a.st.at (a.st.at + hyper_width) (omega arith) 2 target_count_at _ _ (omega arith) in
    let over = below_over 2 _ _ _ _ (count_there o) (sym fault) in
    simp (
      passed c.from_residual-in_err-count.ensures,
      over.1,
      reading,
      le-leb _ _ c.if-self-end.false,
      source_is o,
      count_there o,
      lt-leb (a.st.seen + number 2 a.self.bytes.now (a.st.at + target_count_at)) most_targets (omega (arith, over.0)),
    )

pub hyper_targets-requires : goal.hyper_targets-requires
hyper_targets-requires c =
    let few = (below_good 2 _ _ _ _ (count_is c)).1 in
    (omega arith, omega (arith, few))

pub returns : goal.returns
unfolding read_hyper
returns c =
    simp (reading, le-leb _ _ c.if-self-end.false, source_is (goal.at.returns c).In_ok-source, (below_good 2 _ _ _ _ (count_is (goal.at.returns c).In_ok-count)).0) c.hyper_targets.ensures
