-- `records::put_near` meets its contract: a hyperedge with one target, or a target.
use Rattle.records.specs.Bytes.{near_bytes, near_width}
use Rattle.records.proofs.put_near.Goals as goal

pub put_single-requires : goal.put_single-requires
unfolding near_width
put_single-requires c = rw c.in-Some.is at c.requires

pub put_target-requires : goal.put_target-requires
unfolding near_width
put_target-requires c = rw c.in-Every.is at c.requires

pub returns-in-Some : goal.returns-in-Some
unfolding near_bytes
returns-in-Some c = rw c.in-Some.is c.put_single.ensures

pub returns-in-Every : goal.returns-in-Every
unfolding near_bytes
returns-in-Every c = rw c.in-Every.is c.put_target.ensures
