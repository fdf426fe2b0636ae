-- What the program writes for what it reads.
use Rattle.std.specs.Prelude.{ℕ, List, ◌++◌, cond, length, take, drop, replicate, leb}
use Rattle.lists.specs.Making.{span}
use Rattle.refusal.specs.Number.{over_budget, number_of, nowhere}
use Rattle.value.specs.Value.{at_most}
use Rattle.wire.specs.Read.{Read, Ok, Err, ◌>>=◌}
use Rattle.rules.specs.Rounds.{rounds}
use Rattle.rules.specs.Count.{count}
use Rattle.syntax.specs.Formula.{root_of}
use Rattle.wording.specs.Text.{text}
use Rattle.questions.specs.Question.{Question, ruled_for, root_node}
use Rattle.settling.specs.Answer.{read_settled, bytes_of, values_of}
use Rattle.pieces.specs.Cut.{read_cut}
use Rattle.pieces.specs.Lines.{line, refused_line, rounds_line, state_line}

-- a model followed by a formula, and what settling them asks for before BUDGET
unfoldable pub read_input : (input bytes values : List ℕ) → Read Question
read_input input bytes values = read_cut input >>= λ k. read_settled (take k input) (drop k input) bytes values

-- the budget is n
abbrev pub budget_of : Question → ℕ
budget_of question = (ruled_for question).nodes

-- the formula's text, the count of rounds, and for each state yes where the root row's node of the state has value 0, else no
unfoldable pub settled_lines : Question → ℕ → List ℕ
settled_lines question m =
    line (text (root_of question.rows)) ++ rounds_line m
    ++ span (λ a. state_line (at_most (rounds (ruled_for question) m (root_node question a)) 0) a) 0 question.model.states

-- any refusal writes only its line; BUDGET exactly when the count is greater than the budget
unfoldable pub output_within : (budget : Question → ℕ) → Read Question → List ℕ
output_within budget (Ok question) =
    cond (leb (count (ruled_for question)) (budget question)) (settled_lines question (count (ruled_for question))) (refused_line over_budget nowhere)
output_within budget (Err e) = refused_line (number_of e.refusal) e.offset

abbrev pub output_of : Read Question → List ℕ
output_of x = output_within budget_of x

-- what is left in the room of values
unfoldable pub left_of : Read Question → (values : List ℕ) → List ℕ
left_of (Ok question) values = values_of (Ok question) (budget_of question) values
left_of (Err e) values = values

-- the output stands at the front of a room of at least 8,192 bytes, and its length is returned; with less nothing is done
unfoldable pub report_length : Read Question → (out : List ℕ) → ℕ
report_length x out = cond (leb 8192 (length out)) (length (output_of x)) 0

unfoldable pub report_out : Read Question → (out : List ℕ) → List ℕ
report_out x out = cond (leb 8192 (length out)) (output_of x ++ drop (length (output_of x)) out) out

unfoldable pub report_bytes : Read Question → (bytes out : List ℕ) → List ℕ
report_bytes x bytes out = cond (leb 8192 (length out)) (bytes_of x bytes) bytes

unfoldable pub report_values : Read Question → (values out : List ℕ) → List ℕ
report_values x values out = cond (leb 8192 (length out)) (left_of x values) values

-- the rooms of the program: 65,536 bytes and 8,192 numbers, all zero
unfoldable pub zero_bytes : List ℕ
zero_bytes = replicate 65536 0

unfoldable pub zero_values : List ℕ
zero_values = replicate 8192 0
