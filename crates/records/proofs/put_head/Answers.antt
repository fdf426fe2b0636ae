-- `records::put_head` meets its contract: the source's bytes, and behind them the count's.
use Prim.Native.Nat.{◌+◌}
use mathlib.Core.Path.{refl}
use native.Mathlib.Omega.{arith}
use Rattle.wire.proofs.Laid.{stored, ◌then◌, said}
use Rattle.wire.proofs.Laid as laid
use Rattle.graph.specs.Format.{target_count_at}
use Rattle.records.proofs.put_head.Goals as goal

pub returns : goal.returns
returns c =
    let a = c.args in
    let one = stored a.at 2 a.source (omega arith) c.store.ensures in
    let other = stored (a.at + target_count_at) 2 a.count (omega (arith, laid.same_length one)) c.store-2.ensures in
    said (one then other) refl refl (omega arith)
