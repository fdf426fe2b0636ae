-- `graph::Reading::target` meets its contract: both fields fit, and the node is read from the target's part as from the message.
use Rattle.std.proofs.Common.{◌+◌, sym, ◌∙◌, arith}
use Rattle.wire.proofs.Fields.{field_value}
use Rattle.wire.proofs.Reading.{reading, passed, cut_below}
use Rattle.graph.specs.Format.{node_at, target_width}
use Rattle.graph.specs.Message.{read_target}
use Rattle.graph.proofs.Reading.target.Goals as goal

pub returns-in_err-read_below : goal.returns-in_err-read_below
unfolding read_target
returns-in_err-read_below c =
    let a = c.args in
    let fault = c.in_err-read_below.ensures ∙ cut_below a.self.bytes.now a.st.at (a.st.at + target_width) (omega arith) 2 node_at a.self.nodes _ (omega arith) in
    simp (passed c.from_residual.ensures, reading, field_value 4 a.self.bytes.now a.st.at (omega arith), sym fault)

pub returns : goal.returns
unfolding read_target
returns c =
    let a = c.args in
    let node = c.in_ok-read_below.ensures ∙ cut_below a.self.bytes.now a.st.at (a.st.at + target_width) (omega arith) 2 node_at a.self.nodes _ (omega arith) in
    simp (reading, field_value 4 a.self.bytes.now a.st.at (omega arith), sym node)
