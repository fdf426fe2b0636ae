-- The rows of an accepted formula message by position.
use Rattle.std.specs.Prelude.{ℕ, ◌+◌, ◌<◌, ◌≤◌, List, length}
use Rattle.lists.specs.Lists.{◌∈◌}
use Rattle.wire.specs.Bytes.{number}
use Rattle.wire.specs.Layout.{Layout}
use Rattle.syntax.specs.declared.Row.{Row}
use Rattle.syntax.specs.Format.{left_at, right_at, bound_at, row_width}
use Rattle.syntax.specs.Rows.{row_of, operands}

-- the row of the fields at a position
abbrev pub row_at : List ℕ → ℕ → Row
row_at s at = row_of (number 1 s at) (number 1 s (at + left_at)) (number 1 s (at + right_at)) (number 4 s (at + bound_at))

-- a row: its bytes fit, and its operands are among 64 rows
pub record RowOk (s : List ℕ) (at : ℕ) : Type 0 where
  pub inside : at + row_width ≤ length s
  pub small : {l : ℕ} → l ∈ operands (row_at s at) → l < 64

-- rows, one behind another
abbrev pub row_layout : List ℕ → Layout Row
row_layout s = record { item = row_at s; next = λ at. at + row_width; Ok = RowOk s }
