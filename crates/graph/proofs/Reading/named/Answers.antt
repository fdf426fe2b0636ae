-- `graph::Reading::named` meets its contract: the node and the two bytes behind it are below n times 65,536 exactly when the node is below n.
use Rattle.std.proofs.Common.{◌+◌, ◌∙◌, arith}
use Rattle.graph.proofs.Reading.named.Goals as goal
use Rattle.ordered.proofs.Told.{both_part, told_ok}
use Rattle.graph.specs.Format.{node_at}

pub returns : goal.returns
returns c =
    let a = c.args in
    c.is_ok.ensures.value
    ∙ told_ok _ _ _ (c.read_below.ensures ∙ both_part a.self.bytes.now a.self.nodes a.at (a.at + node_at + 4) node_at _ c.args.self.are_bytes (omega arith) (omega arith))
