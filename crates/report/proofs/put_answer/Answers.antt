-- `report::put_answer` meets its contract: the lines of a settled question, or of a refusal.
use Prim.Native.Nat.{◌+◌, ◌-◌}
use mathlib.Core.Path.{◌≡◌, sym, ap, ◌∙◌}
use native.Mathlib.Omega.{arith}
use lib.ListN.{drop, length-take}
use Rattle.lists.proofs.Tests.{by}
use Rattle.wire.specs.Bytes.{Bytes}
use Rattle.wire.specs.Read.{Ok}
use Rattle.decimals.proofs.Writing.{said}
use Rattle.questions.specs.Question.{read_question, nodes_of}
use Rattle.report.proofs.Ended.{Done, left_is, output_refused, output_spent, output_done}
use Rattle.pieces.proofs.Lines.{refused_fits}
use Rattle.report.proofs.put_answer.Goals as goal
use Rattle.report.proofs.put_answer.Goals.{After-settle, In-Ok-Settled}

-- both messages are bytes
model_bytes : (c : After-settle) → Bytes c.args.m.now
model_bytes c i = omega (arith, c.type_inv.m i)

formula_bytes : (c : After-settle) → Bytes c.args.f.now
formula_bytes c i = omega (arith, c.type_inv.f i)

-- the budget is the number of nodes of what is read
n_rounds : (c : After-settle) → c.nodes-budget.result ≡ nodes_of (read_question c.args.m.now c.args.f.now)
n_rounds c = c.nodes-budget.ensures

done : (c : In-Ok-Settled) → let a = c.args in
    Done a.m.now a.f.now a.bytes.now a.values.now (let it : c.nodes-budget.result ≡ nodes_of (read_question c.args.m.now c.args.f.now) = c.nodes-budget.ensures in it) (let it : Bytes c.args.m.now = λ i. omega (arith, c.type_inv.m i) in it) (let it : Bytes c.args.f.now = λ i. omega (arith, c.type_inv.f i) in it) c.settle.ensures.values_after c.in-Ok-Settled.count c.in-Ok-Settled.first c.in-Ok-Settled.states
done c =
    output_done _ _ _ _ (let it : c.nodes-budget.result ≡ nodes_of (read_question c.args.m.now c.args.f.now) = c.nodes-budget.ensures in it) (let it : Bytes c.args.m.now = λ i. omega (arith, c.type_inv.m i) in it) (let it : Bytes c.args.f.now = λ i. omega (arith, c.type_inv.f i) in it) c.settle.ensures.values_after (by (c.in-Ok-Settled.is ∙ ap Ok c.in-Ok-Settled.field-0-is) c.settle.ensures.value)

pub number_at-p-requires : goal.number_at-p-requires
number_at-p-requires c = (done c).header

pub put_settled-requires : goal.put_settled-requires
put_settled-requires c =
    let d = done (goal.at.put_settled-requires c).In-Ok-Settled in
    let s = c.in-Ok-Settled in
    record { few = omega (arith, d.few, length-take (s.first + s.states - s.first) (drop s.first c.settle.new.values)); room = c.requires }

pub put_refused-requires : goal.put_refused-requires
put_refused-requires c = refused_fits _ _ _ c.requires

pub put_refused-requires-in-Err : goal.put_refused-requires-in-Err
put_refused-requires-in-Err c = refused_fits _ _ _ c.requires

pub returns-in-Ok-Settled : goal.returns-in-Ok-Settled
returns-in-Ok-Settled c =
    let part : c.in-Ok-Settled.first + c.in-Ok-Settled.states - c.in-Ok-Settled.first ≡ c.in-Ok-Settled.states = omega arith in
    let put = rw (c.number_at-p.ensures, part) at c.put_settled.ensures in
    record {
      wrote = said put (sym (done (goal.at.returns-in-Ok-Settled c).In-Ok-Settled).lines);
      bytes_after = c.settle.ensures.bytes_after;
      values_after = c.settle.ensures.values_after ∙ left_is _ _ _ _ (n_rounds (goal.at.returns-in-Ok-Settled c).After-settle);
    }

pub returns-in-Ok-Spent : goal.returns-in-Ok-Spent
returns-in-Ok-Spent c =
    let n = n_rounds (goal.at.returns-in-Ok-Spent c).After-settle in
    record {
      wrote = said c.put_refused.ensures (output_spent _ _ _ _ n (by (c.in-Ok-Spent.is ∙ ap Ok c.in-Ok-Spent.field-0-is) c.settle.ensures.value));
      bytes_after = c.settle.ensures.bytes_after;
      values_after = c.settle.ensures.values_after ∙ left_is _ _ _ _ n;
    }

pub returns-in-Err : goal.returns-in-Err
returns-in-Err c =
    let n = n_rounds (goal.at.returns-in-Err c).After-settle in
    record {
      wrote = said (rw c.number.ensures at c.put_refused-in-Err.ensures) (output_refused _ _ _ _ n (by c.in-Err.is c.settle.ensures.value));
      bytes_after = c.settle.ensures.bytes_after;
      values_after = c.settle.ensures.values_after ∙ left_is _ _ _ _ n;
    }
