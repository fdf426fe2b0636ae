-- The reading of a formula message s against p propositions: its first fault in the paper's order, or its rows.
-- A state's `at` is a position in s, and `seen` the place of the row there.
use Rattle.std.specs.Prelude.{ℕ, ◌+◌, Bool, false, cond, List, length, leb, eqb}
use Rattle.refusal.specs.declared.Fault.{Fault}
use Rattle.refusal.specs.declared.Refusal.TheVariants.{Length, Limit, Form}
use Rattle.refusal.specs.Number.{nowhere}
use Rattle.wire.specs.Read.{Read, Ok, ◌>>=◌, ◌>>◌, demand, field, below, misnamed}
use Rattle.wire.specs.Reader.{Reader, read_all}
use Rattle.wire.specs.Start.{read_start}
use Rattle.wire.specs.Counts.{read_count}
use Rattle.wire.specs.Begin.{start}
use Rattle.wire.specs.declared.State.{State}
use Rattle.syntax.specs.declared.Row.{Row}
use Rattle.syntax.specs.Format.{formula_header, formula_head, rows_count, left_at, right_at, zero_at, bound_at, row_width, formula_length}
use Rattle.syntax.specs.Rows.{row_of, uses_left, uses_right, uses_bound, left_limit, right_limit, used_once}

-- the fault of a field that breaks the rules of formulas
abbrev pub ill_formed : (offset : ℕ) → Fault
ill_formed offset = record { refusal = Form; offset = offset }

-- The fields of a row may be read from a part of the message, as a source may: then its offset is told beside its position.

-- a field that the operator doesn't use is zero, else FORM; one that it uses is read in its turn
unfoldable pub spare : (used : Bool) → ℕ → List ℕ → (at offset : ℕ) → Read ℕ
spare used k s at offset = cond used (Ok 0) (below k s at 1 (ill_formed offset))

-- a field that the operator uses names one of so many, else NAME; one that it doesn't use is zero
unfoldable pub operand : (used : Bool) → List ℕ → (at limit offset : ℕ) → Read ℕ
operand used s at limit offset = cond used (below 1 s at limit (misnamed offset)) (Ok 0)

-- the fields behind an operator: the first unused one not zero FORM; then left and right NAME; the field zero is never used
unfoldable pub fields_from : List ℕ → (at offset p place operator : ℕ) → Read Row
fields_from s at offset p place operator = do
  l ← spare (uses_left operator) 1 s (at + left_at) (offset + left_at)
  r ← spare (uses_right operator) 1 s (at + right_at) (offset + right_at)
  z ← spare false 1 s (at + zero_at) (offset + zero_at)
  b ← spare (uses_bound operator) 4 s (at + bound_at) (offset + bound_at)
  left ← operand (uses_left operator) s (at + left_at) (left_limit p place operator) (offset + left_at)
  right ← operand (uses_right operator) s (at + right_at) (right_limit place operator) (offset + right_at)
  bound ← field 4 s (at + bound_at)
  Ok (row_of operator left right bound)

-- a row: unknown operator FORM; then its fields
unfoldable pub row_from : List ℕ → (at offset p place : ℕ) → Read Row
row_from s at offset p place = do
  operator ← field 1 s at
  demand (leb operator 11) Form offset
  fields_from s at offset p place operator

-- the row of a message at a state
abbrev pub read_row : List ℕ → ℕ → State → Read Row
read_row s p st = row_from s st.at st.at p st.seen

-- the rows, one behind another; the place rises by one
abbrev pub rows : List ℕ → ℕ → Reader State Row
rows s p = record {
  position = λ st. st.at;
  read = read_row s p;
  next = λ st row. record { at = st.at + row_width; prev = st.prev; seen = st.seen + 1 };
}

-- the header: its start, then the row count; then the message is exactly as long as that says
unfoldable pub read_header : List ℕ → Read ℕ
read_header s = do
  read_start s formula_head
  f ← read_count s rows_count
  demand (eqb (length s) (formula_length f)) Length nowhere
  Ok f

-- the f rows, and after all of them the rule of use
abbrev pub read_rows : List ℕ → (p f : ℕ) → Read (List Row)
read_rows s p f = do
  rs ← read_all (rows s p) f (start formula_header)
  demand (used_once rs) Form nowhere
  Ok rs

-- a whole message: the p handed in comes before any byte; the header, and the rows
unfoldable pub read_formula : ℕ → List ℕ → Read (List Row)
read_formula p s = do
  demand (leb p 32) Limit nowhere
  f ← read_header s
  read_rows s p f
