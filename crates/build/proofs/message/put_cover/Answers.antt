-- `message::put_cover` meets its contract: its three fields, one behind the other.
use Rattle.std.proofs.Common.{◌+◌, refl, arith}
use Rattle.wire.proofs.Laid.{stored, ◌then◌, said}
use Rattle.wire.proofs.Laid as laid
use Rattle.graph.specs.Format.{cover_bound_at, cover_target_at}
use Rattle.build.proofs.message.put_cover.Goals as goal

pub returns : goal.returns
returns c =
    let a = c.args in
    let source = stored a.at 2 a.source (omega arith) c.store.ensures in
    let bound = stored (a.at + cover_bound_at) 4 a.code (omega (arith, laid.same_length source)) c.store-2.ensures in
    let target = stored (a.at + cover_target_at) 2 a.target (omega (arith, laid.same_length source, laid.same_length bound)) c.store-3.ensures in
    said (said (source then bound) refl refl (omega arith) then target) refl refl (omega arith)
