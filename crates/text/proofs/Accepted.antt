-- What an accepted message gives the writing of its text: the root by position, and a text that is short. Assumes nothing.
use Prim.Native.Nat.{ℕ, ◌-◌, ◌≤◌}
use mathlib.Core.List.{List}
use mathlib.Core.Path.{◌≡◌, sym, ap, subst, ◌∙◌}
use native.Mathlib.Omega.{arith}
use lib.ListN.{length}
use Rattle.wire.specs.Bytes.{Bytes}
use Rattle.wire.specs.Read.{Read, Ok}
use Rattle.wire.specs.Layout.{items}
use Rattle.syntax.specs.Format.{formula_header}
use Rattle.syntax.specs.declared.Row.{Row}
use Rattle.formula.specs.Answers.{checked}
use Rattle.syntax.specs.Formula.{root_of, formula_of}
use Rattle.syntax.specs.Layouts.{row_layout}
use Rattle.syntax.specs.Message.{read_formula}
use Rattle.syntax.specs.WellFormed.{RowAt, WellFormed}
use Rattle.formula.proofs.Answered.{checked_formula}
use Rattle.formula.proofs.Good.{formula_good, header_good}
use Rattle.formula.proofs.Accepted.{accepted_holds}
use Rattle.formula.proofs.Exact.{accepted_written}
use Rattle.wording.specs.Text.{text}
use Rattle.wording.specs.Rows.{count_of, rows_of, row_text, Ready}
use Rattle.wording.proofs.Length.{accepted_text_short}

-- the root of an accepted message, by position
pub record Root (x : Read (List Row)) (s : List ℕ) (f : ℕ) : Type 0 where
  pub rows : List Row
  pub reads : x ≡ Ok rows
  pub some_row : 1 ≤ f
  pub ready : Ready s (f - 1)
  pub text_is : row_text s (f - 1) ≡ text (root_of rows)
  pub short : length (row_text s (f - 1)) ≤ 2048

module _ (p : ℕ) (s : List ℕ) (b : Bytes s) (rows : List Row) (e : read_formula p s ≡ Ok rows) where
  well : WellFormed p rows
  well = (accepted_written p s rows b e).1

  count_is : count_of s ≡ length rows
  count_is = let h = header_good s (length rows) (formula_good p s rows e).header in omega (arith, h.long)

  rows_are : rows_of s ≡ rows
  rows_are = ap (λ (k : ℕ). items (row_layout s) k formula_header) count_is ∙ sym (accepted_holds p s rows e).are

  last_ready : Ready s (length rows - 1)
  last_ready =
      record {
        there = omega (arith, count_is, well.some_row);
        earlier = λ j {row} at m. well.earlier j (subst (λ (l : List Row). RowAt l j row) rows_are at) m;
      }

  last_text : row_text s (length rows - 1) ≡ text (root_of rows)
  unfolding row_text
  last_text = ap (λ (l : List Row). text (formula_of l (length rows - 1))) rows_are

  last_root : Root (read_formula p s) s (length rows)
  last_root =
      record {
        rows = rows;
        reads = e;
        some_row = well.some_row;
        ready = last_ready;
        text_is = last_text;
        short = rw last_text (accepted_text_short well);
      }

pub checked_root : (p : ℕ) (s : List ℕ) → Bytes s → {f : ℕ} → Ok f ≡ checked (read_formula p s) → Root (read_formula p s) s f
checked_root p s b e =
    let accepted = checked_formula (read_formula p s) (sym e) in
    subst (Root (read_formula p s) s) accepted.long (last_root p s b accepted.rows accepted.read)
