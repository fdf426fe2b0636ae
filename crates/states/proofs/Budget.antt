-- BUDGET has its number to itself: it is answered exactly where all that is asked for before it is good and the count is greater than the
-- budget. Assumes nothing.
use Prim.Native.Nat.{ℕ, ◌<◌}
use mathlib.Core.List.{List}
use mathlib.Core.Bool.{Bool, true, false, cond}
use mathlib.Core.Logic.{◌↔◌}
use mathlib.Core.Path.{◌≡◌, refl}
use native.Mathlib.Omega.{arith}
use lib.ListN.{length}
use lib.Dec.{leb}
use borrow.Author.Tests.{leb-false, lt-leb}
use Rattle.refusal.specs.Number.{over_budget}
use Rattle.refusal.proofs.Numbers.{number_above}
use Rattle.value.specs.Value.{at_most}
use Rattle.wire.specs.Read.{Read, Ok, Err}
use Rattle.rules.specs.Rounds.{rounds}
use Rattle.rules.specs.Count.{count}
use Rattle.graph.specs.Write.{write_graph}
use Rattle.settling.specs.declared.Answer.TheVariants as Answer
use Rattle.settling.specs.declared.AllStates.TheVariants as AllStates
use Rattle.questions.specs.Question.{Question, graph_for, ruled_for, root_node}
use Rattle.settling.specs.Answer.{answer_number, all_number, read_settled, read_asked, verdict_of, all_of, answer_of}

-- the question is good, and its count is greater than the budget
abbrev pub Exceeds : Read Question → (budget : ℕ) → Type 0
Exceeds x budget = (q : Question) × (x ≡ Ok q) × (budget < count (ruled_for q))

-- all states at once
pub settle_budget : (m f : List ℕ) (budget : ℕ) (b v : List ℕ) → let x = read_settled m f b v in (all_number (all_of x budget) ≡ over_budget) ↔ Exceeds x budget
unfolding all_of
settle_budget m f budget b v = (λ e. read (read_settled m f b v) e, λ (q, is, l). rw (is, lt-leb (count (graph_for q)) budget l) refl)
  where
    tested : (q : Question) (t : Bool) → leb (count (graph_for q)) budget ≡ t → let n = length (write_graph (graph_for q)) in
        all_number (Ok (cond t (AllStates.Settled (count (graph_for q)) n (root_node q 0) q.model.states) (AllStates.Spent budget n))) ≡ over_budget
        → budget < count (graph_for q)
    tested q true p e = absurd (omega arith)
    tested q false p e = leb-false _ _ p

    read : (x : Read Question) → all_number (all_of x budget) ≡ over_budget → Exceeds x budget
    read (Ok q) e = (q, refl, tested q _ refl e)
    read (Err r) e = absurd (omega (arith, number_above r.refusal))

-- and one
pub answer_budget : (m f : List ℕ) (state budget : ℕ) (b v : List ℕ) → let x = read_asked m f state b v in
    (answer_number (answer_of x state budget) ≡ over_budget) ↔ Exceeds x budget
unfolding answer_of
answer_budget m f state budget b v = (λ e. read (read_asked m f state b v) e, λ (q, is, l). rw (is, lt-leb (count (graph_for q)) budget l) refl)
  where
    tested : (q : Question) (t : Bool) → leb (count (graph_for q)) budget ≡ t → let n = length (write_graph (graph_for q)) in
        answer_number (Ok (cond t (Answer.Decided (verdict_of (at_most (rounds (graph_for q) (count (graph_for q)) (root_node q state)) 0)) (count (graph_for q)) n) (Answer.Spent budget n)))
        ≡ over_budget → budget < count (graph_for q)
    tested q true p e = absurd (omega arith)
    tested q false p e = leb-false _ _ p

    read : (x : Read Question) → answer_number (answer_of x state budget) ≡ over_budget → Exceeds x budget
    read (Ok q) e = (q, refl, tested q _ refl e)
    read (Err r) e = absurd (omega (arith, number_above r.refusal))
