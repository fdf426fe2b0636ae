-- `message::put_header` meets its contract: the bytes of its six fields, one behind the other.
use mathlib.Core.List.{append_assoc}
use mathlib.Core.Path.{refl}
use native.Mathlib.Omega.{arith}
use Rattle.wire.specs.Start.{version_at, kind_at}
use Rattle.wire.proofs.Laid.{said, stored, ◌then◌}
use Rattle.wire.proofs.Laid as laid
use Rattle.graph.specs.Format.{graph_head, nodes_count, hypers_count, covers_count}
use Rattle.build.proofs.message.put_header.Goals as goal

pub returns : goal.returns
returns c =
    let a = c.args in
    let long = stored 0 4 a.long (omega arith) c.store.ensures in
    let version = long then stored version_at 1 graph_head.version (omega (arith, laid.same_length long)) c.store-2.ensures in
    let kind = version then stored kind_at 1 graph_head.kind (omega (arith, laid.same_length version)) c.store-3.ensures in
    let nodes = kind then stored nodes_count.at 2 a.n (omega (arith, laid.same_length kind)) c.store-4.ensures in
    let hypers = nodes then stored hypers_count.at 4 a.h (omega (arith, laid.same_length nodes)) c.store-5.ensures in
    let covers = hypers then stored covers_count.at 2 a.c (omega (arith, laid.same_length hypers)) c.store-6.ensures in
    said covers (simp append_assoc) refl refl
