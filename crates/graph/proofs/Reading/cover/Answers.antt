-- `graph::Reading::cover` meets its contract: source and target are read from the cover edge's part as from the message, and the bound is there.
use Rattle.std.proofs.Common.{◌≡◌, ◌+◌, sym, ◌∙◌, arith, le-leb}
use borrow.Author.Tests.{lt-leb}
use Rattle.wire.specs.Read.{Ok, source}
use Rattle.wire.proofs.Fields.{field_value}
use Rattle.wire.proofs.Reading.{reading, passed, cut_source, cut_below}
use Rattle.graph.specs.Format.{cover_bound_at, cover_target_at, cover_width}
use Rattle.graph.specs.Message.{read_cover}
use Rattle.graph.proofs.Reading.cover.Goals as goal
use Rattle.graph.proofs.Reading.cover.Goals.{In_ok-source}

source_is : (c : In_ok-source) → let a = c.args in source a.self.bytes.now a.st.at a.self.nodes a.st.prev ≡ Ok c.in_ok-source.source
source_is c =
    let a = c.args in
    sym (c.in_ok-source.ensures ∙ cut_source a.self.bytes.now a.st.at (a.st.at + cover_width) (omega arith) a.self.nodes a.st.prev a.st.at (omega arith))

pub returns-then-self-end : goal.returns-then-self-end
unfolding read_cover
returns-then-self-end c = simp (reading, lt-leb _ _ c.if-self-end.true)

pub returns-in_err-source : goal.returns-in_err-source
unfolding read_cover
returns-in_err-source c =
    let a = c.args in
    let fault = c.in_err-source.ensures ∙ cut_source a.self.bytes.now a.st.at (a.st.at + cover_width) (omega arith) a.self.nodes a.st.prev a.st.at (omega arith) in
    simp (passed c.from_residual.ensures, reading, le-leb _ _ c.if-self-end.false, sym fault)

pub returns-in_err-read_below : goal.returns-in_err-read_below
unfolding read_cover
returns-in_err-read_below c =
    let a = c.args in
    let bound = field_value 4 a.self.bytes.now (a.st.at + cover_bound_at) (omega arith) in
    let fault = c.in_err-read_below.ensures ∙ cut_below a.self.bytes.now a.st.at (a.st.at + cover_width) (omega arith) 2 cover_target_at a.self.nodes _ (omega arith) in
    simp (passed c.from_residual-in_err-read_below.ensures, reading, le-leb _ _ c.if-self-end.false, source_is (goal.at.returns-in_err-read_below c).In_ok-source, bound, sym fault)

pub returns : goal.returns
unfolding read_cover
returns c =
    let a = c.args in
    let bound = field_value 4 a.self.bytes.now (a.st.at + cover_bound_at) (omega arith) in
    let target = c.in_ok-read_below.ensures ∙ cut_below a.self.bytes.now a.st.at (a.st.at + cover_width) (omega arith) 2 cover_target_at a.self.nodes _ (omega arith) in
    simp (reading, le-leb _ _ c.if-self-end.false, source_is (goal.at.returns c).In_ok-source, bound, sym target)
