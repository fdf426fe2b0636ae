-- The pieces that the code makes of the input and lays into the output; Output.antt of report says what the whole is.
use Rattle.std.specs.Prelude.{ℕ, List, [], ◌++◌, length, eqb, get_or}
use Rattle.lists.specs.Making.{span}
use Rattle.wire.specs.Read.{Read, Ok, Err}
use Rattle.syntax.specs.declared.Row.{Row}
use Rattle.syntax.specs.Formula.{root_of}
use Rattle.wording.specs.Text.{text}
use Rattle.pieces.specs.Lines.{line, rounds_line, state_line}

-- a line for each state: yes where its number is 0
unfoldable pub states_lines : (values : List ℕ) → List ℕ
states_lines values = span (λ a. state_line (eqb (get_or values a 0) 0) a) 0 (length values)

-- the text of an accepted formula
unfoldable pub text_in : Read (List Row) → List ℕ
text_in (Ok rows) = text (root_of rows)
text_in (Err e) = []

-- the text, the count of rounds, and a line for each state
unfoldable pub ended_lines : Read (List Row) → (m : ℕ) (values : List ℕ) → List ℕ
ended_lines x m values = line (text_in x) ++ rounds_line m ++ states_lines values
