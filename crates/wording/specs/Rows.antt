-- The texts of the rows of an accepted message, and what the writing of one needs to know.
use Rattle.std.specs.Prelude.{ℕ, ◌-◌, ◌/◌, ◌<◌, List, [], ◌++◌, length, Option, None, Some}
use Rattle.lists.specs.Lists.{◌∈◌}
use Rattle.decimals.specs.Decimal.{decimal}
use Rattle.wire.specs.Layout.{items}
use Rattle.syntax.specs.Format.{formula_header, row_width}
use Rattle.syntax.specs.declared.Row.{Row}
use Rattle.syntax.specs.Formula.{formula_of}
use Rattle.syntax.specs.Rows.{operands}
use Rattle.syntax.specs.Layouts.{row_layout}
use Rattle.syntax.specs.WellFormed.{RowAt}
use Rattle.wording.specs.Text.{text}

-- how many rows a message has, by its length, and the rows
abbrev pub count_of : List ℕ → ℕ
count_of s = (length s - formula_header) / row_width

abbrev pub rows_of : List ℕ → List Row
rows_of s = items (row_layout s) (count_of s) formula_header

-- the text of row i
unfoldable pub row_text : List ℕ → ℕ → List ℕ
row_text s i = text (formula_of (rows_of s) i)

-- row i is there, and the operands of each row are earlier rows
pub record Ready (s : List ℕ) (i : ℕ) : Type 0 where
  pub there : i < count_of s
  pub earlier : (j : ℕ) {row : Row} → RowAt (rows_of s) j row → {l : ℕ} → l ∈ operands row → l < j

-- a sign and its number: no number, no sign
abbrev pub signed_text : List ℕ → Option ℕ → List ℕ
signed_text sign None = []
signed_text sign (Some k) = sign ++ decimal k
