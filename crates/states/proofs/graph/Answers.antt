-- `states::graph` meets its contract: a refused model or formula, or the graph of the question that they hold.
use native.Mathlib.Omega.{arith}
use Rattle.wire.specs.Bytes.{Bytes}
use Rattle.wire.proofs.Reading.{passed}
use Rattle.states.proofs.Building.{graph_refused, graph_built}
use Rattle.states.proofs.graph.Goals as goal

pub returns-in_err-asked : goal.returns-in_err-asked
returns-in_err-asked c =
    let model : Bytes c.args.m.now = λ i. omega (arith, c.type_inv.m i) in
    let formula : Bytes c.args.f.now = λ i. omega (arith, c.type_inv.f i) in
    let shown = graph_refused _ _ model formula _ c.in_err-asked.ensures in
    rw (passed c.from_residual.ensures) (record { value = shown.0; room_after = shown.1.0; promise_graph = shown.1.1 })

pub returns : goal.returns
returns c =
    let model : Bytes c.args.m.now = λ i. omega (arith, c.type_inv.m i) in
    let formula : Bytes c.args.f.now = λ i. omega (arith, c.type_inv.f i) in
    let shown = graph_built _ _ model formula _ c.in_ok-asked.ensures (c.build.ensures.value, c.build.ensures.room_after) in
    record { value = shown.0; room_after = shown.1.0; promise_graph = shown.1.1 }
