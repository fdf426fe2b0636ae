-- `questions::question` meets its contract: the model is checked first, then the formula with the model's p.
use Rattle.std.proofs.Common.{arith}
use Rattle.wire.specs.Bytes.{Bytes}
use Rattle.wire.proofs.Reading.{passed}
use Rattle.questions.proofs.Reading.{ModelRead, model_read, asked_refused, rows_refused, asked}
use Rattle.questions.proofs.question.Goals as goal
use Rattle.questions.proofs.question.Goals.{In_ok-counts}

-- the model that is accepted, when the formula is checked
read : (c : In_ok-counts) → ModelRead c.args.m.now c.in_ok-counts.counts
read c = model_read _ (λ i. omega (arith, c.type_inv.m i)) c.in_ok-counts.ensures

pub returns-in_err-counts : goal.returns-in_err-counts
returns-in_err-counts c = rw (passed c.from_residual.ensures) (asked_refused _ _ c.in_err-counts.ensures)

pub returns-in_err-rows : goal.returns-in_err-rows
returns-in_err-rows c = rw (passed c.from_residual-in_err-rows.ensures) (rows_refused _ _ (read (goal.at.returns-in_err-rows c).In_ok-counts) c.in_err-rows.ensures)

pub invariant_of-model : goal.invariant_of-model
invariant_of-model c = record { holds = (read (goal.at.invariant_of-model c).In_ok-counts).stands }

pub invariant_of-formula : goal.invariant_of-formula
invariant_of-formula c =
    let bytes : Bytes c.args.f.now = λ i. omega (arith, c.type_inv.f i) in
    record { holds = (asked _ _ (read (goal.at.invariant_of-formula c).In_ok-counts) bytes c.in_ok-rows.ensures).1 }

pub returns : goal.returns
returns c =
    let bytes : Bytes c.args.f.now = λ i. omega (arith, c.type_inv.f i) in
    (asked _ _ (read (goal.at.returns c).In_ok-counts) bytes c.in_ok-rows.ensures).0
