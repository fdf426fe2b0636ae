-- `records::put_target` meets its contract: the weight's bytes, and behind them the node's.
use Prim.Native.Nat.{◌+◌}
use mathlib.Core.Path.{refl}
use native.Mathlib.Omega.{arith}
use Rattle.wire.proofs.Laid.{stored, ◌then◌, said}
use Rattle.wire.proofs.Laid as laid
use Rattle.graph.specs.Format.{node_at}
use Rattle.graph.specs.Write.{write_target}
use Rattle.records.proofs.put_target.Goals as goal

pub returns : goal.returns
unfolding write_target
returns c =
    let a = c.args in
    let one = stored a.at 4 a.weight (omega arith) c.store.ensures in
    let other = stored (a.at + node_at) 2 a.node (omega (arith, laid.same_length one)) c.store-2.ensures in
    said (one then other) refl refl (omega arith)
