-- What the customer is promised of a verdict, in the words of the demands. A name with a stroke is a room after the call; `reported` is
-- the count and `returned` the length that are given back.
use Rattle.std.specs.Prelude.{ℕ, Option, Some, None, ◌+◌, ◌≤◌, ◌<◌, List, ◌++◌, ◌≡◌, ◌↔◌, length, get_or, take, drop}
use Rattle.refusal.specs.Number as number
use Rattle.refusal.specs.Number.{ok, over_budget}
use Rattle.wire.specs.Read.{Read, Ok}
use Rattle.graph.specs.Message.{read_graph}
use Rattle.graph.specs.Write.{write_graph}
use Rattle.turns.specs.Outcome.{filled}
use Rattle.rounds.specs.Promise.{SettledAt, SpentAt}
use Rattle.model.specs.Write.{write_model}
use Rattle.model.specs.WellFormed as models
use Rattle.syntax.specs.Formula.{root_of}
use Rattle.syntax.specs.Write.{write_formula}
use Rattle.syntax.specs.WellFormed as formulas
use Rattle.runs.specs.Systems.{system_of}
use Rattle.runs.specs.Sat.{Sat}
use Rattle.build.specs.Built.{built_length}
use Rattle.settling.specs.declared.Verdict.{Verdict}
use Rattle.settling.specs.declared.Answer.{Answer}
use Rattle.settling.specs.declared.AllStates.{AllStates}
use Rattle.questions.specs.Question.{Question, graph_for, ruled_for, root_node}
use Rattle.settling.specs.Answer.{answer_number, answer_verdict, answer_count, answer_length, all_number, all_count, all_length}

-- the messages are the writings of a well-formed model and of rows that are well-formed with its p
pub record Asks (model formula : List ℕ) (question : Question) : Type 0 where
  pub model_written : model ≡ write_model question.model
  pub model_fits : models.WellFormed question.model
  pub formula_written : formula ≡ write_formula question.rows
  pub formula_fits : formulas.WellFormed question.model.propositions question.rows

-- the state satisfies the formula by its maximal runs
abbrev pub Satisfies : Question → (state : ℕ) → Type 0
Satisfies question state = Sat (system_of question.model) (root_of question.rows) state

-- the graph of the question stands in its room
pub record Stands (question : Question) (bytes bytes' : List ℕ) (returned : ℕ) : Type 0 where
  -- the returned length is that of the graph
  pub long : returned ≡ length (write_graph (graph_for question))
  -- it stands at the front, the rest untouched
  pub front : bytes' ≡ write_graph (graph_for question) ++ drop returned bytes
  -- these bytes are accepted as a graph, and are read as this one
  pub reads : read_graph (take returned bytes') ≡ Ok (graph_for question)

-- what a verdict or a spent budget leaves in the two rooms
pub record Leaves (question : Question) (bytes values bytes' values' : List ℕ) (reported returned : ℕ) : Type 0 where
  -- the graph stands at the front of its room
  pub graph : Stands question bytes bytes' returned
  -- the values are the reported round and the next, the rest as it came
  pub two_rounds : values' ≡ filled (ruled_for question) reported values

-- a verdict: yes exactly when the state satisfies the formula by its maximal runs, else no
pub record Decides (model formula : List ℕ) (state budget : ℕ) (bytes values bytes' values' : List ℕ) (verdict : Option Verdict) (reported returned : ℕ) : Type 0 where
  -- the model and the formula
  pub question : Question
  -- the messages are their writings
  pub asked : Asks model formula question
  -- the state exists
  pub named : state < question.model.states
  -- yes exactly when it satisfies the formula
  pub yes : (verdict ≡ Some Verdict.Yes) ↔ Satisfies question state
  -- no exactly when it does not
  pub otherwise : (verdict ≡ Some Verdict.No) ↔ (¬ Satisfies question state)
  -- the count is the first unchanged round, and the values are settled, as for rounds on the graph
  pub settled : SettledAt (ruled_for question) budget values' reported
  -- the count is at most n
  pub soon : reported ≤ (ruled_for question).nodes
  -- the graph and the last two rounds stand in the rooms
  pub leaves : Leaves question bytes values bytes' values' reported returned

-- all states' answers stand in one settled room, one after another from the root row's node of state 0 on
pub record DecidesAll (model formula : List ℕ) (budget : ℕ) (bytes values bytes' values' : List ℕ) (answer : Read AllStates) : Type 0 where
  -- the model and the formula
  pub question : Question
  -- the messages are their writings
  pub asked : Asks model formula question
  -- the answer says where, and how many states there are
  pub says : answer ≡ Ok (AllStates.Settled (all_count answer) (all_length answer) (root_node question 0) question.model.states)
  -- each has a number in the room
  pub inside : root_node question 0 + question.model.states ≤ length values'
  -- it is 0 exactly for a state that satisfies the formula
  pub yes : (state : ℕ) → state < question.model.states → (get_or values' (root_node question 0 + state) 0 ≡ 0) ↔ Satisfies question state
  -- the count is the first unchanged round, and the values are settled, as for rounds on the graph
  pub settled : SettledAt (ruled_for question) budget values' (all_count answer)
  -- the count is at most n
  pub soon : all_count answer ≤ (ruled_for question).nodes
  -- the graph and the last two rounds stand in the rooms
  pub leaves : Leaves question bytes values bytes' values' (all_count answer) (all_length answer)

-- the budget is spent
pub record Spends (model formula : List ℕ) (budget : ℕ) (bytes values bytes' values' : List ℕ) (reported returned : ℕ) : Type 0 where
  -- the model and the formula
  pub question : Question
  -- the messages are their writings
  pub asked : Asks model formula question
  -- the budget is the reported count, and the first unchanged round comes later, as for rounds on the graph
  pub spent : SpentAt (ruled_for question) budget values' reported
  -- the graph and the last two rounds stand in the rooms
  pub leaves : Leaves question bytes values bytes' values' reported returned

-- the budget is spent on a question about a state
pub record SpendsOn (model formula : List ℕ) (state budget : ℕ) (bytes values bytes' values' : List ℕ) (verdict : Option Verdict) (reported returned : ℕ) : Type 0 where
  -- there is no verdict
  pub none : verdict ≡ None
  -- the budget is spent, as for all states
  pub spends : Spends model formula budget bytes values bytes' values' reported returned
  -- the state exists
  pub named : state < spends.question.model.states

-- a refusal has count 0 and returned length 0, and leaves both rooms as they came
pub record Refuses (bytes values bytes' values' : List ℕ) (reported returned : ℕ) : Type 0 where
  pub no_count : reported ≡ 0
  pub no_length : returned ≡ 0
  pub bytes_stay : bytes' ≡ bytes
  pub values_stay : values' ≡ values

-- the graph alone was built
pub record Builds (model formula bytes bytes' : List ℕ) (returned : ℕ) : Type 0 where
  -- the model and the formula
  pub question : Question
  -- the messages are their writings
  pub asked : Asks model formula question
  -- the graph stands at the front of its room
  pub graph : Stands question bytes bytes' returned

-- by the number, verdict, count and length that the paper gives the answer: OK, BUDGET, or a refusal, which has verdict none
pub record Promise (model formula : List ℕ) (state budget : ℕ) (bytes values bytes' values' : List ℕ) (answer : Read Answer) : Type 0 where
  pub decides : answer_number answer ≡ ok
      → Decides model formula state budget bytes values bytes' values' (answer_verdict answer) (answer_count answer) (answer_length answer)
  pub spends : answer_number answer ≡ over_budget
      → SpendsOn model formula state budget bytes values bytes' values' (answer_verdict answer) (answer_count answer) (answer_length answer)
  pub refuses : over_budget < answer_number answer
      → (answer_verdict answer ≡ None) × Refuses bytes values bytes' values' (answer_count answer) (answer_length answer)

-- of all states at once
pub record PromiseAll (model formula : List ℕ) (budget : ℕ) (bytes values bytes' values' : List ℕ) (answer : Read AllStates) : Type 0 where
  pub decides : all_number answer ≡ ok → DecidesAll model formula budget bytes values bytes' values' answer
  pub spends : all_number answer ≡ over_budget → Spends model formula budget bytes values bytes' values' (all_count answer) (all_length answer)
  pub refuses : over_budget < all_number answer → Refuses bytes values bytes' values' (all_count answer) (all_length answer)

-- of the graph alone
pub record PromiseGraph (model formula bytes bytes' : List ℕ) (answer : Read ℕ) : Type 0 where
  pub builds : number.answer_number answer ≡ ok → Builds model formula bytes bytes' (built_length answer)
  pub refuses : ok < number.answer_number answer → (built_length answer ≡ 0) × (bytes' ≡ bytes)
