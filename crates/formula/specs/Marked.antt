-- What the check counts of rows' operands: how many uses there are, and which rows were used.
use Rattle.std.specs.Prelude.{ℕ, ◌/◌, ◌%◌, ◌^◌, cond, List, ◌≡◌, eqb, length}
use Rattle.formula.specs.declared.Uses.{Uses}
use Rattle.syntax.specs.Rows.{times}

-- bit i of a number
abbrev pub bit_of : (n i : ℕ) → ℕ
bit_of n i = n / 2 ^ i % 2

-- all uses are counted, and bit i is set exactly where row i was used
pub record Marked (uses : Uses) (ls : List ℕ) : Type 0 where
  pub total_is : uses.total ≡ length ls
  pub marked : (i : ℕ) → bit_of uses.rows i ≡ cond (eqb (times i ls) 0) 0 1
