-- What the library gives back beside the paper's number.
use Rattle.std.specs.Prelude.{ℕ, Option, Some, None, List, [], ◌∷◌}
use Rattle.wire.specs.Read.{Read, Ok, Err}
use Rattle.graph.specs.declared.Counts as graph
use Rattle.model.specs.declared.Counts as model
use Rattle.search.specs.Answer.{answer_of as searchOf, read_asked as asked_of}
use Rattle.steps.specs.declared.Verdict.{Verdict}
use Rattle.steps.specs.declared.Verdict.TheVariants.{Yes, No}
use Rattle.search.specs.declared.Found.{Found}
use Rattle.settling.specs.Answer.{read_settled, read_asked, answer_of, all_of}
use Rattle.settling.specs.declared.Answer.{Answer}
use Rattle.settling.specs.declared.AllStates.{AllStates}

-- the counts of an accepted message's header; a refusal leaves what is lent for them as it came. Nodes, hyperedges and cover edges
abbrev pub graph_counts : Read graph.Counts → (came : List ℕ) → List ℕ
graph_counts (Ok k) came = k.nodes ∷ k.hypers ∷ k.covers ∷ []
graph_counts (Err e) came = came

-- states, propositions and transitions
abbrev pub model_counts : Read model.Counts → (came : List ℕ) → List ℕ
model_counts (Ok k) came = k.states ∷ k.propositions ∷ k.transitions ∷ []
model_counts (Err e) came = came

-- rows
abbrev pub formula_count : Read ℕ → (came : ℕ) → ℕ
formula_count (Ok rows) came = rows
formula_count (Err e) came = came

-- the number of a verdict of a search from one node, as `verdict_number` has it of a state, and its answer
abbrev pub found_number : Option Verdict → ℕ
found_number None = 0
found_number (Some Yes) = 1
found_number (Some No) = 2

abbrev pub searched : (message : List ℕ) → (root : ℕ) → (words : List ℕ) → Read Found
searched message root words = searchOf (asked_of message root words) root

-- the answer on a state, and on all states
abbrev pub asked_one : (model formula : List ℕ) (state budget : ℕ) (bytes values : List ℕ) → Read Answer
asked_one model formula state budget bytes values = answer_of (read_asked model formula state bytes values) state budget

abbrev pub asked_all : (model formula : List ℕ) (budget : ℕ) (bytes values : List ℕ) → Read AllStates
asked_all model formula budget bytes values = all_of (read_settled model formula bytes values) budget

-- where state 0's number stands in the room of values, and how many states there are; as it came where nothing settled
abbrev pub states_lent : Read AllStates → (came : List ℕ) → List ℕ
states_lent (Ok (AllStates.Settled m n first states)) came = first ∷ states ∷ []
states_lent (Ok (AllStates.Spent m n)) came = came
states_lent (Err e) came = came
