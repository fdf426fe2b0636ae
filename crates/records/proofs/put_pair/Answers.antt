-- `records::put_pair` meets its contract: the head of a hyperedge, and behind it its two targets.
use native.Mathlib.Omega.{arith}
use Rattle.wire.proofs.Laid.{sized}
use Rattle.graph.specs.Format.{hyper_width, target_width}
use Rattle.graph.specs.Write.{write_target}
use Rattle.reduction.specs.Built.{to}
use Rattle.graph.proofs.Exact.{target_length}
use Rattle.records.proofs.Edges.{head_length, single_laid, more_laid, hyper_laid}
use Rattle.records.proofs.put_pair.Goals as goal

pub put_target-second-requires : goal.put_target-second-requires
put_target-second-requires c = let h = sized c.put_head-first.ensures hyper_width (head_length _ _) in omega arith

pub put_target-requires : goal.put_target-requires
put_target-requires c =
    let h = sized c.put_head-first.ensures hyper_width (head_length _ _) in
    let t = sized c.put_target-second.ensures target_width (target_length _) in
    omega arith

pub returns : goal.returns
returns c =
    let a = c.args in
    let h = sized c.put_head-first.ensures hyper_width (head_length _ _) in
    let last = single_laid write_target (to a.weight a.other) c.put_target.ensures in
    let both = more_laid write_target (to 0 a.node) c.put_target-second.ensures _ last in
    hyper_laid a.v _ c.put_head-first.ensures both
