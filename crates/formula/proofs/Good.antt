-- What a good reading says: each field is there, each demand is met. Assumes nothing.
use Prim.Native.Nat.{ℕ, ◌+◌, ◌≤◌}
use mathlib.Core.List.{List}
use mathlib.Core.Bool.{Bool, true, false}
use mathlib.Core.Path.{◌≡◌, refl, sym, ap, subst, ◌∙◌}
use native.Mathlib.Nat.{add-zero}
use native.Mathlib.Omega.{arith}
use lib.Dec.{leb}
use lib.ListN.{length, take, drop}
use borrow.Author.Tests.{leb-true, le-leb, eqb-true}
use Rattle.refusal.specs.declared.Refusal.TheVariants.{Form}
use Rattle.wire.specs.declared.State.{State}
use Rattle.wire.specs.Read.{Read, Ok, Err, ◌>>=◌, ◌>>◌, demand, field, misnamed}
use Rattle.wire.specs.Reader.{read_all}
use Rattle.wire.specs.Start.{read_start}
use Rattle.wire.specs.Begin.{start}
use Rattle.wire.proofs.Fields.{part_field}
use Rattle.wire.proofs.Counts.{CountAt, count_good}
use Rattle.wire.proofs.Reading.{bind_good, and_good, demand_good, good_same, part_below}
use Rattle.wire.proofs.Readers.{all_length}
use Rattle.wire.proofs.Exact.{good_bind, good_demand, all_there}
use Rattle.syntax.specs.Format.{formula_header, formula_head, rows_count, left_at, right_at, zero_at, bound_at, row_width, formula_length}
use Rattle.syntax.specs.declared.Row.{Row}
use Rattle.syntax.specs.Rows.{row_of, uses_left, uses_right, uses_bound, left_limit, right_limit, used_once}
use Rattle.syntax.specs.Message.{ill_formed, spare, operand, fields_from, row_from, read_row, rows, read_header, read_formula}
use Rattle.formula.proofs.Spelt.{spare_zero}
use Rattle.formula.proofs.Judging.{named, Idle, Named, fields_spare, fields_named}
use Rattle.formula.proofs.Using.{spare_good, operand_good, zero_good}

-- a row is read from its part of the message as from the message
module _ (s : List ℕ) (at : ℕ) (inside : at + row_width ≤ length s) where
  spare_part : (used : Bool) (k x offset : ℕ) → x + k ≤ row_width → spare used k (take row_width (drop at s)) x offset ≡ spare used k s (at + x) offset
  unfolding spare
  spare_part used k x offset h = rw (part_below k s at row_width x 1 (ill_formed offset) inside h) refl

  operand_part : (used : Bool) (x limit offset : ℕ) → x + 1 ≤ row_width → operand used (take row_width (drop at s)) x limit offset ≡ operand used s (at + x) limit offset
  unfolding operand
  operand_part used x limit offset h = rw (part_below 1 s at row_width x limit (misnamed offset) inside h) refl

  fields_part : (offset p place o : ℕ) → fields_from (take row_width (drop at s)) 0 offset p place o ≡ fields_from s at offset p place o
  unfolding fields_from
  fields_part offset p place o = rw (
    spare_part (uses_left o) 1 left_at (offset + left_at) (omega arith),
    spare_part (uses_right o) 1 right_at (offset + right_at) (omega arith),
    spare_part false 1 zero_at (offset + zero_at) (omega arith),
    spare_part (uses_bound o) 4 bound_at (offset + bound_at) (omega arith),
    operand_part (uses_left o) left_at (left_limit p place o) (offset + left_at) (omega arith),
    operand_part (uses_right o) right_at (right_limit place o) (offset + right_at) (omega arith),
    part_field s at row_width 4 bound_at inside (omega arith),
  ) refl

  pub row_part : (offset p place : ℕ) → row_from (take row_width (drop at s)) 0 offset p place ≡ row_from s at offset p place
  unfolding row_from ◌>>=◌
  row_part offset p place = rw (part_field s at row_width 1 0 inside (omega arith), add-zero) (go (field 1 s at))
    where
      go : (x : Read ℕ) → (x >>= λ o. demand (leb o 11) Form offset >> fields_from (take row_width (drop at s)) 0 offset p place o) ≡ (x >>= λ o. demand (leb o 11) Form offset >> fields_from s at offset p place o)
      go (Ok o) = rw (fields_part offset p place o) refl
      go (Err e) = refl

-- what a good row says of its fields
pub record Fine (p place operator left right zero bound : ℕ) (row : Row) : Type 0 where
  pub known : operator ≤ 11
  pub is : row_of operator left right bound ≡ row
  pub spare : spare_zero row left right zero bound ≡ true
  pub names : Named p place row

fields_fine : (p place o l r z b : ℕ) {row : Row} → o ≤ 11 → row_of o l r b ≡ row → Idle o l r z b
    → named (uses_left o) l (left_limit p place o) ≡ true → named (uses_right o) r (right_limit place o) ≡ true → Fine p place o l r z b row
fields_fine p place o l r z b known same idle left right =
    record { known = known; is = same; spare = rw (← same) (fields_spare o l r z b known idle); names = rw (← same) (fields_named p place o l r b known left right) }

module _ (s : List ℕ) (p : ℕ) where
  -- what a good row says of the bytes
  pub record RowGood (st : State) (row : Row) : Type 0 where
    pub operator : ℕ
    pub left : ℕ
    pub right : ℕ
    pub zero : ℕ
    pub bound : ℕ
    pub operator_there : field 1 s st.at ≡ Ok operator
    pub left_there : field 1 s (st.at + left_at) ≡ Ok left
    pub right_there : field 1 s (st.at + right_at) ≡ Ok right
    pub zero_there : field 1 s (st.at + zero_at) ≡ Ok zero
    pub bound_there : field 4 s (st.at + bound_at) ≡ Ok bound
    pub fine : Fine p st.seen operator left right zero bound row

  pub row_good : (st : State) (row : Row) → read_row s p st ≡ Ok row → RowGood st row
  unfolding row_from fields_from
  row_good st row e =
      let operator = bind_good _ _ e in
      let known = demand_good _ _ _ operator.rest in
      let l = bind_good _ _ known.1 in
      let r = bind_good _ _ l.rest in
      let z = bind_good _ _ r.rest in
      let b = bind_good _ _ z.rest in
      let left = bind_good _ _ b.rest in
      let right = bind_good _ _ left.rest in
      let bound = bind_good _ _ right.rest in
      let o = operator.value in
      let at_left = operand_good s _ _ _ (uses_left o) l.first left.first in
      let at_right = operand_good s _ _ _ (uses_right o) r.first right.first in
      let at_zero = zero_good s _ _ z.first in
      let idle : Idle o left.value right.value z.value bound.value = record {
        left = at_left.is_idle;
        right = at_right.is_idle;
        zero = at_zero.1;
        bound = spare_good 4 s _ _ (uses_bound o) b.first bound.first;
      } in
      record {
        operator = o;
        left = left.value;
        right = right.value;
        zero = z.value;
        bound = bound.value;
        operator_there = operator.first;
        left_there = at_left.there;
        right_there = at_right.there;
        zero_there = at_zero.0;
        bound_there = bound.first;
        fine = fields_fine p st.seen o _ _ _ _ (leb-true _ _ known.0) (good_same bound.rest) idle at_left.is_named at_right.is_named;
      }

-- what a good header says of the bytes
pub record HeaderAt (s : List ℕ) (f : ℕ) : Type 0 where
  pub opened : read_start s formula_head ≡ Ok tt
  pub f_counted : CountAt s rows_count f
  pub long : length s ≡ formula_length f

pub header_good : (s : List ℕ) (f : ℕ) → read_header s ≡ Ok f → HeaderAt s f
unfolding read_header
header_good s f e =
    let opened = and_good _ _ e in
    let there = bind_good _ _ opened.1 in
    let long = demand_good _ _ _ there.rest in
    subst (HeaderAt s) (good_same long.1)
    (record { opened = opened.0; f_counted = count_good _ _ there.first; long = eqb-true _ _ long.0 })

-- what a good message says of its parts
pub record FormulaAt (p : ℕ) (s : List ℕ) (rs : List Row) : Type 0 where
  pub p_most : p ≤ 32
  pub header : read_header s ≡ Ok (length rs)
  pub rows_there : read_all (rows s p) (length rs) (start formula_header) ≡ Ok rs
  pub used : used_once rs ≡ true

pub formula_good : (p : ℕ) (s : List ℕ) (rs : List Row) → read_formula p s ≡ Ok rs → FormulaAt p s rs
unfolding read_formula
formula_good p s rs e =
    let p_most = demand_good _ _ _ e in
    let header = bind_good _ _ p_most.1 in
    let there = bind_good _ _ header.rest in
    let used = demand_good _ _ _ there.rest in
    subst (FormulaAt p s) (good_same used.1) (record {
      p_most = leb-true _ _ p_most.0;
      header = header.first ∙ ap Ok (sym (all_length _ _ _ _ there.first));
      rows_there = all_there _ _ _ _ there.first;
      used = used.0;
    })

pub good_formula : (p : ℕ) (s : List ℕ) (rs : List Row) → FormulaAt p s rs → read_formula p s ≡ Ok rs
unfolding read_formula
good_formula p s rs g = good_demand _ (le-leb _ _ g.p_most) (good_bind _ g.header (good_bind _ g.rows_there (good_demand _ g.used refl)))
