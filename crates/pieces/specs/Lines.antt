-- The lines that the program writes.
use Rattle.std.specs.Prelude.{ℕ, zero, suc, List, [], ◌∷◌, ◌++◌, Bool, true, false}
use Rattle.decimals.specs.Decimal.{word, decimal, long_decimal}

-- every line is ended by a line feed
abbrev pub line : List ℕ → List ℕ
line s = s ++ (10 ∷ [])

-- where the field at fault starts; nothing where no field is at fault
unfoldable pub place : (offset : ℕ) → List ℕ
place zero = []
place (suc k) = word " at " ++ long_decimal (suc k)

-- any refusal writes only `refused`, the number, and the place
unfoldable pub refused_line : (number offset : ℕ) → List ℕ
refused_line number offset = line (word "refused " ++ decimal number ++ place offset)

-- the count of rounds
unfoldable pub rounds_line : ℕ → List ℕ
rounds_line m = line (word "rounds " ++ decimal m)

-- a state, and yes or no
abbrev pub answer_word : Bool → List ℕ
answer_word true = word " yes"
answer_word false = word " no"

unfoldable pub state_line : Bool → ℕ → List ℕ
state_line satisfied a = line (decimal a ++ answer_word satisfied)
