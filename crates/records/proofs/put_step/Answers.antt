-- `records::put_step` meets its contract: a hyperedge with two targets, or a target.
use Rattle.graph.proofs.Exact.{target_length}
use Rattle.records.specs.Bytes.{step_bytes}
use Rattle.records.proofs.Edges.{pair_length}
use Rattle.records.proofs.put_step.Goals as goal

pub put_pair-requires : goal.put_pair-requires
unfolding step_bytes
put_pair-requires c = rw (c.in-Some.is, pair_length) at c.requires

pub put_target-requires : goal.put_target-requires
unfolding step_bytes
put_target-requires c = rw (c.in-Every.is, target_length) at c.requires

pub returns-in-Some : goal.returns-in-Some
unfolding step_bytes
returns-in-Some c = rw c.in-Some.is c.put_pair.ensures

pub returns-in-Every : goal.returns-in-Every
unfolding step_bytes
returns-in-Every c = rw c.in-Every.is c.put_target.ensures
