-- `verdict::decide` meets its contract: a refused model or formula, a state that does not exist, or the question settled and the state's
-- number read.
use Prim.Native.Nat.{ℕ, ◌≤◌, ◌<◌}
use mathlib.Core.Path.{◌≡◌, refl, sym, ap, ◌∙◌}
use native.Mathlib.Omega.{arith}
use lib.ListN.{length}
use Rattle.lists.proofs.Tests.{by}
use Rattle.wire.specs.Bytes.{Bytes}
use Rattle.wire.specs.Read.{Read, Ok}
use Rattle.wire.proofs.Reading.{passed as handed}
use Rattle.settling.specs.declared.AllStates.{AllStates}
use Rattle.settling.specs.declared.Answer.{Answer}
use Rattle.transitions.specs.Held.{held_model}
use Rattle.questions.specs.declared.asked.Asked.{Asked}
use Rattle.questions.specs.Asking.{question_of}
use Rattle.settling.proofs.Settling.{shows_as}
use Rattle.states.proofs.Finished.{Finished, ended_as, decided, node_inside, node_small, read_yes, read_no}
use Rattle.states.proofs.Answering.{Shown, one_refused, one_unnamed, one_decided}
use Rattle.verdict.proofs.decide.Goals as goal
use Rattle.verdict.proofs.decide.Goals.{After-question, After-settle_question, In-Settled}

-- both messages are bytes
model_bytes : (c : After-question) → Bytes c.args.m.now
model_bytes c i = omega (arith, c.type_inv.m i)

formula_bytes : (c : After-question) → Bytes c.args.f.now
formula_bytes c i = omega (arith, c.type_inv.f i)

some_row : (asked : Asked) → 1 ≤ length (question_of asked).rows
some_row asked = asked.formula.holds.well_formed.some_row

-- the question settled
done : (c : In-Settled) → let a = c.args in
    Finished (question_of c.in_ok-asked.asked) a.budget a.bytes.now a.values.now c.in-Settled.count c.in-Settled.length c.in-Settled.first c.in-Settled.states
done c = ended_as _ _ _ _ (by (c.in_ok-count.was ∙ ap Ok c.in-Settled.is) c.settle_question.ensures.value)

-- what the settling answered decides
decides : (c : After-settle_question) (s : Read AllStates) {r : Read Answer} → let a = c.args in
    Bytes a.m.now → Bytes a.f.now → c.args.state < (question_of c.in_ok-asked.asked).model.states → c.settle_question.result ≡ s → r ≡ decided (question_of c.in_ok-asked.asked) a.state s
    → Shown a.m.now a.f.now a.state a.budget a.bytes.now a.values.now r c.settle_question.new.bytes c.settle_question.new.values
decides c s mb fb named e d =
    let a = c.args in
    let settled = c.settle_question.ensures in
    let shows = shows_as (question_of c.in_ok-asked.asked) a.budget a.bytes.now a.values.now (sym e) (settled.value, (settled.bytes_after, settled.values_after)) in
    one_decided _ _ mb fb _ _ _ _ c.in_ok-asked.ensures named shows d

-- an accepted model has so many states
states_are : (asked : Asked) {state : ℕ} → state < asked.model.states → state < (question_of asked).model.states
unfolding held_model
states_are asked h = h

pub returns-in_err-asked : goal.returns-in_err-asked
returns-in_err-asked c =
    let place = (goal.at.returns-in_err-asked c).After-question in
    let shown = one_refused _ _ (model_bytes place) (formula_bytes place) _ _ _ _ c.in_err-asked.ensures in
    rw (handed c.from_residual.ensures) (record { value = shown.0; bytes_after = shown.1.0; values_after = shown.1.1.0; promise = shown.1.1.1 })

pub returns-then-asked-state : goal.returns-then-asked-state
unfolding held_model
returns-then-asked-state c =
    let place = (goal.at.returns-then-asked-state c).After-question in
    let shown = one_unnamed _ _ (model_bytes place) (formula_bytes place) _ _ _ _ c.in_ok-asked.ensures c.if-asked-state.true in
    record { value = shown.0; bytes_after = shown.1.0; values_after = shown.1.1.0; promise = shown.1.1.1 }

pub returns-in_err-count : goal.returns-in_err-count
returns-in_err-count c =
    let place = goal.at.returns-in_err-count c in
    let shown = decides place.After-settle_question _ (model_bytes place.After-question) (formula_bytes place.After-question) (states_are c.in_ok-asked.asked c.if-asked-state.false) c.in_err-count.was refl in
    rw (handed c.from_residual-in_err-count.ensures) (record { value = shown.0; bytes_after = shown.1.0; values_after = shown.1.1.0; promise = shown.1.1.1 })

pub overflow_add-node : goal.overflow_add-node
overflow_add-node c =
    let asked = c.in_ok-asked.asked in
    omega (arith, node_small (done (goal.at.overflow_add-node c).In-Settled) (some_row asked) _ (states_are asked c.if-asked-state.false))

pub bounds-values-node : goal.bounds-values-node
bounds-values-node c =
    let asked = c.in_ok-asked.asked in
    node_inside (done (goal.at.bounds-values-node c).In-Settled) (some_row asked) _ (states_are asked c.if-asked-state.false) c.settle_question.ensures.values_after

pub returns-then-values-node-eq0 : goal.returns-then-values-node-eq0
returns-then-values-node-eq0 c =
    let place = goal.at.returns-then-values-node-eq0 c in
    let asked = c.in_ok-asked.asked in
    let named = states_are asked c.if-asked-state.false in
    let yes = read_yes (done place.In-Settled) (some_row asked) _ named c.settle_question.ensures.values_after c.if-values-node-eq0.true in
    let shown = decides place.After-settle_question _ (model_bytes place.After-question) (formula_bytes place.After-question) named (c.in_ok-count.was ∙ ap Ok c.in-Settled.is) yes in
    record { value = shown.0; bytes_after = shown.1.0; values_after = shown.1.1.0; promise = shown.1.1.1 }

pub returns-else-values-node-eq0 : goal.returns-else-values-node-eq0
returns-else-values-node-eq0 c =
    let place = goal.at.returns-else-values-node-eq0 c in
    let asked = c.in_ok-asked.asked in
    let named = states_are asked c.if-asked-state.false in
    let no = read_no (done place.In-Settled) (some_row asked) _ named c.settle_question.ensures.values_after c.if-values-node-eq0.false in
    let shown = decides place.After-settle_question _ (model_bytes place.After-question) (formula_bytes place.After-question) named (c.in_ok-count.was ∙ ap Ok c.in-Settled.is) no in
    record { value = shown.0; bytes_after = shown.1.0; values_after = shown.1.1.0; promise = shown.1.1.1 }

pub returns-in-Spent : goal.returns-in-Spent
returns-in-Spent c =
    let place = goal.at.returns-in-Spent c in
    let named = states_are c.in_ok-asked.asked c.if-asked-state.false in
    let shown = decides place.After-settle_question _ (model_bytes place.After-question) (formula_bytes place.After-question) named (c.in_ok-count.was ∙ ap Ok c.in-Spent.is) refl in
    record { value = shown.0; bytes_after = shown.1.0; values_after = shown.1.1.0; promise = shown.1.1.1 }
