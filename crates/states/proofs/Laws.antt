-- Laws of the whole question: a budget that always settles, budgets that settle agree, and there is one question that the messages write.
-- Assumes nothing.
use Prim.Native.Nat.{ℕ, ◌≤◌}
use mathlib.Core.List.{List}
use mathlib.Core.Path.{◌≡◌, refl, sym, ◌∙◌}
use lib.ListN.{length}
use borrow.Author.Tests.{le-leb}
use native.Mathlib.Omega.{arith}
use Rattle.lists.proofs.Tests.{by}
use Rattle.wire.specs.Read.{Ok}
use Rattle.rules.specs.Count.{count}
use Rattle.graph.specs.Write.{write_graph}
use Rattle.turns.specs.Outcome.{filled}
use Rattle.model.specs.WellFormed as models
use Rattle.model.proofs.Exact as model
use Rattle.syntax.specs.WellFormed as formulas
use Rattle.formula.proofs.Exact as formula
use Rattle.reduction.proofs.Depths.{built_count}
use Rattle.settling.specs.declared.AllStates.{AllStates}
use Rattle.questions.specs.Question.{Question, graph_for, ruled_for, root_node}
use Rattle.settling.specs.Answer.{roomed, all_of, values_of}
use Rattle.states.specs.Promise.{Asks}
use Rattle.states.proofs.Finished.{ended_as}

-- a budget of n rounds is never spent: where the graph passes no limit and both rooms are large enough, the question settles
pub always_settles : (q : Question) → models.WellFormed q.model → formulas.WellFormed q.model.propositions q.rows
    → (budget : ℕ) → let g = ruled_for q in g.nodes ≤ budget
    → all_of (Ok q) budget ≡ Ok (AllStates.Settled (count g) (length (write_graph (graph_for q))) (root_node q 0) q.model.states)
unfolding all_of
always_settles q m f budget h = rw (le-leb (count (graph_for q)) budget (omega (arith, built_count m f)))

-- two budgets that settle a question give the same answer, whatever the rooms, and so the same verdicts; and the same two rounds
pub two_budgets : (q : Question) (c d : ℕ) (b v b' v' : List ℕ) {m n first states m' n' first' states' : ℕ}
    → Ok (AllStates.Settled m n first states) ≡ all_of (roomed q b v) c → Ok (AllStates.Settled m' n' first' states') ≡ all_of (roomed q b' v') d
    → (AllStates.Settled m n first states ≡ AllStates.Settled m' n' first' states')
    × (values_of (roomed q b v) c v ≡ filled (graph_for q) m v) × (values_of (roomed q b' v') d v' ≡ filled (graph_for q) m v')
two_budgets q c d b v b' v' {m} {n} {first} {states} {m'} {n'} {first'} {states'} e e' =
    let done = ended_as q c b v e in
    let done' = ended_as q d b' v' e' in
    let counts : m ≡ m' = done.count_is ∙ sym done'.count_is in
    let lengths : n ≡ n' = done.ran.long_is ∙ sym done'.ran.long_is in
    let firsts : first ≡ first' = done.first_is ∙ sym done'.first_is in
    let all : states ≡ states' = done.states_are ∙ sym done'.states_are in
    (rw (counts, lengths, firsts, all) refl, done.ran.values_are, rw counts done'.ran.values_are)

-- the messages are the writings of one question only, so a promise that speaks of some question speaks of that one
pub one_question : {m f : List ℕ} {q q' : Question} → Asks m f q → Asks m f q' → q ≡ q'
one_question a b =
    let models = model.writing_tells a.model_fits b.model_fits (by a.model_written b.model_written) in
    let rows = formula.writing_tells a.formula_fits b.formula_fits (by a.formula_written b.formula_written) in
    λ i. record { model = models i; rows = rows i }
