-- What the whole question answers, and what it leaves in the two rooms.
use Rattle.std.specs.Prelude.{ℕ, ◌+◌, ◌≤◌, min, Option, Some, None, List, ◌++◌, Bool, true, false, cond, length, drop, leb, ltb}
use Rattle.std.proofs.Common.{arith}
use Rattle.refusal.specs.Number.{ok, over_budget, nowhere}
use Rattle.refusal.specs.declared.Refusal.TheVariants.{Name, Room, Size}
use Rattle.value.specs.Value.{at_most}
use Rattle.wire.specs.Read.{Read, Ok, Err, ◌>>=◌, ◌>>◌, demand}
use Rattle.rules.specs.Rounds.{rounds}
use Rattle.rules.specs.Count.{count}
use Rattle.graph.specs.Write.{write_graph}
use Rattle.turns.specs.Outcome.{ended_number, ended_count, filled}
use Rattle.build.specs.Built.{fits}
use Rattle.settling.specs.declared.Verdict.{Verdict}
use Rattle.settling.specs.declared.Answer.{Answer}
use Rattle.settling.specs.declared.AllStates.{AllStates}
use Rattle.questions.specs.Question.{Question, read_question, graph_for, ruled_for, root_node}

-- what comes of a question about a state where nothing is refused: the paper's number, the verdict, the count and the returned length
abbrev pub ending_number : Answer → ℕ
ending_number (Answer.Decided v m n) = ok
ending_number (Answer.Spent m n) = over_budget

abbrev pub ending_verdict : Answer → Option Verdict
ending_verdict (Answer.Decided v m n) = Some v
ending_verdict (Answer.Spent m n) = None

abbrev pub ending_count : Answer → ℕ
ending_count (Answer.Decided v m n) = m
ending_count (Answer.Spent m n) = m

abbrev pub ending_length : Answer → ℕ
ending_length (Answer.Decided v m n) = n
ending_length (Answer.Spent m n) = n

-- and of all states at once
abbrev pub states_number : AllStates → ℕ
states_number (AllStates.Settled m n first states) = ok
states_number (AllStates.Spent m n) = over_budget

abbrev pub states_count : AllStates → ℕ
states_count (AllStates.Settled m n first states) = m
states_count (AllStates.Spent m n) = m

abbrev pub states_length : AllStates → ℕ
states_length (AllStates.Settled m n first states) = n
states_length (AllStates.Spent m n) = n

-- no refusal has these numbers
pub ending_within : (x : Answer) → ending_number x ≤ over_budget
ending_within (Answer.Decided v m n) = omega arith
ending_within (Answer.Spent m n) = omega arith

pub states_within : (x : AllStates) → states_number x ≤ over_budget
states_within (AllStates.Settled m n first states) = omega arith
states_within (AllStates.Spent m n) = omega arith

-- the paper's number, verdict, count and returned length of an answer: every refusal has no verdict, and any but BUDGET count 0 and length 0
abbrev pub answer_number : Read Answer → ℕ
answer_number = ended_number ending_number

abbrev pub answer_verdict : Read Answer → Option Verdict
answer_verdict (Ok a) = ending_verdict a
answer_verdict (Err e) = None

abbrev pub answer_count : Read Answer → ℕ
answer_count = ended_count ending_count

abbrev pub answer_length : Read Answer → ℕ
answer_length = ended_count ending_length

-- the library for C has a number for a verdict: 0 none, 1 yes, 2 no
abbrev pub verdict_number : Option Verdict → ℕ
verdict_number None = 0
verdict_number (Some Verdict.Yes) = 1
verdict_number (Some Verdict.No) = 2

-- and of all states at once
abbrev pub all_number : Read AllStates → ℕ
all_number = ended_number states_number

abbrev pub all_count : Read AllStates → ℕ
all_count = ended_count states_count

abbrev pub all_length : Read AllStates → ℕ
all_length = ended_count states_length

-- a question that is read: SIZE where its graph would pass a limit, then graph room
unfoldable pub sized : Question → (bytes : List ℕ) → Read Question
sized question bytes = do
  demand (fits (graph_for question)) Size nowhere
  demand (leb (length (write_graph (graph_for question))) (length bytes)) Room nowhere
  Ok question

-- then value room, for two rounds
unfoldable pub roomed : Question → (bytes values : List ℕ) → Read Question
roomed question bytes values = do
  sized question bytes
  demand (leb ((ruled_for question).nodes + (ruled_for question).nodes) (length values)) Room nowhere
  Ok question

-- what a call asks for before BUDGET: for the graph alone, for all states, and for one state, which must exist
unfoldable pub read_built : (model formula bytes : List ℕ) → Read Question
read_built model formula bytes = read_question model formula >>= λ question. sized question bytes

unfoldable pub read_settled : (model formula bytes values : List ℕ) → Read Question
read_settled model formula bytes values = read_question model formula >>= λ question. roomed question bytes values

unfoldable pub read_asked : (model formula : List ℕ) (state : ℕ) (bytes values : List ℕ) → Read Question
read_asked model formula state bytes values = do
  question ← read_question model formula
  demand (ltb state question.model.states) Name nowhere
  roomed question bytes values

-- the verdict is yes when the root row's node of the state has value 0
abbrev pub verdict_of : Bool → Verdict
verdict_of true = Verdict.Yes
verdict_of false = Verdict.No

-- and only then BUDGET: exactly when the count of the graph is greater than the budget
unfoldable pub answer_of : Read Question → (state budget : ℕ) → Read Answer
answer_of (Ok question) state budget =
    let m = count (ruled_for question) in
    let n = length (write_graph (graph_for question)) in
    Ok (cond (leb m budget) (Answer.Decided (verdict_of (at_most (rounds (ruled_for question) m (root_node question state)) 0)) m n) (Answer.Spent budget n))
answer_of (Err e) state budget = Err e

unfoldable pub all_of : Read Question → (budget : ℕ) → Read AllStates
all_of (Ok question) budget =
    let m = count (ruled_for question) in
    let n = length (write_graph (graph_for question)) in
    Ok (cond (leb m budget) (AllStates.Settled m n (root_node question 0) question.model.states) (AllStates.Spent budget n))
all_of (Err e) budget = Err e

unfoldable pub built_alone : Read Question → Read ℕ
built_alone (Ok question) = Ok (length (write_graph (graph_for question)))
built_alone (Err e) = Err e

-- after a verdict or BUDGET the graph stands at the front of its room, the rest untouched; a refusal leaves the room as it came
unfoldable pub bytes_of : Read Question → (bytes : List ℕ) → List ℕ
bytes_of (Ok question) bytes = write_graph (graph_for question) ++ drop (length (write_graph (graph_for question))) bytes
bytes_of (Err e) bytes = bytes

-- and the values are round m and round m + 1, with m the smaller of count and budget
unfoldable pub values_of : Read Question → (budget : ℕ) → (values : List ℕ) → List ℕ
values_of (Ok question) budget values = filled (ruled_for question) (min (count (ruled_for question)) budget) values
values_of (Err e) budget values = values
