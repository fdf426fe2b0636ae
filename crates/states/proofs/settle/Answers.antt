-- `states::settle` meets its contract: a refused model or formula, or the question that they hold, settled.
use native.Mathlib.Omega.{arith}
use Rattle.wire.specs.Bytes.{Bytes}
use Rattle.wire.proofs.Reading.{passed}
use Rattle.states.proofs.Answering.{all_refused, all_settled}
use Rattle.states.proofs.settle.Goals as goal

pub returns-in_err-asked : goal.returns-in_err-asked
returns-in_err-asked c =
    let model : Bytes c.args.m.now = λ i. omega (arith, c.type_inv.m i) in
    let formula : Bytes c.args.f.now = λ i. omega (arith, c.type_inv.f i) in
    let shown = all_refused _ _ model formula _ _ _ c.in_err-asked.ensures in
    rw (passed c.from_residual.ensures) (record { value = shown.0; bytes_after = shown.1.0; values_after = shown.1.1.0; promise_all = shown.1.1.1 })

pub returns : goal.returns
returns c =
    let model : Bytes c.args.m.now = λ i. omega (arith, c.type_inv.m i) in
    let formula : Bytes c.args.f.now = λ i. omega (arith, c.type_inv.f i) in
    let done = c.settle_question.ensures in
    let shown = all_settled _ _ model formula _ _ _ c.in_ok-asked.ensures (done.value, (done.bytes_after, done.values_after)) in
    record { value = shown.0; bytes_after = shown.1.0; values_after = shown.1.1.0; promise_all = shown.1.1.1 }
