-- `records::put_single` meets its contract: the head of a hyperedge, and behind it its one target.
use mathlib.Core.List.{[], ◌∷◌}
use native.Mathlib.Omega.{arith}
use Rattle.wire.proofs.Laid.{sized}
use Rattle.graph.specs.Format.{hyper_width}
use Rattle.graph.specs.Write.{write_target}
use Rattle.reduction.specs.Built.{to}
use Rattle.records.proofs.Edges.{head_length, single_laid, hyper_laid}
use Rattle.records.proofs.put_single.Goals as goal

pub put_target-requires : goal.put_target-requires
put_target-requires c = let h = sized c.put_head-target.ensures hyper_width (head_length _ _) in omega arith

pub returns : goal.returns
returns c =
    let a = c.args in
    hyper_laid a.v (to 0 a.node ∷ []) c.put_head-target.ensures (single_laid write_target (to 0 a.node) c.put_target.ensures)
