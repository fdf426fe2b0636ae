-- A message is accepted as a formula exactly when it is the writing of its rows, and the rows are well-formed. Assumes nothing.
use Prim.Native.Nat.{ℕ, zero, suc, ◌+◌, ◌<◌}
use mathlib.Core.Bool.{false}
use mathlib.Core.List.Memᴰ
use mathlib.Core.List.{List, [], ◌∷◌, ◌++◌}
use mathlib.Core.Logic.{◌↔◌, ⊎_elim}
use mathlib.Core.Path.{◌≡◌, refl, sym, ap, subst, ◌∙◌}
use native.Mathlib.Nat.{add-zero, zero-add}
use native.Mathlib.Omega.{arith}
use lib.ListN.{length, get_or, drop, length-append}
use borrow.Author.Tests.{le-leb, eq-eqb}
use Rattle.lists.specs.Lists.{◌∈◌}
use Rattle.lists.proofs.Places.{place_lt, place-∈, ∈-place}
use Rattle.wire.specs.Start.{start_width}
use Rattle.wire.specs.declared.State.{State}
use Rattle.wire.specs.Bytes.{bytes, Bytes}
use Rattle.wire.specs.Read.{Ok, field}
use Rattle.wire.specs.Write.{write_all, message}
use Rattle.wire.proofs.Bytes.{length_bytes}
use Rattle.wire.proofs.Reading.{good_same}
use Rattle.wire.specs.Begin.{start}
use Rattle.wire.proofs.Stands.{Stands, stands_first, stands_second, stands_both, stands_last, value_stands, stands_field}
use Rattle.wire.proofs.Counts.{good_count}
use Rattle.wire.proofs.Exact.{good_bind, good_after, good_demand, length_write_all, Exact, FitsAll, none, more, all_reads, all_written, message_length, message_rest, start_reads, start_written}
use Rattle.syntax.specs.Format.{formula_header, formula_head, rows_count, left_at, right_at, zero_at, bound_at, row_width, formula_length}
use Rattle.syntax.specs.declared.Row.{Row}
use Rattle.syntax.specs.Rows.{row_of, uses_left, uses_right, uses_bound, operands, propositions}
use Rattle.syntax.specs.Message.{row_from, fields_from, rows, read_header, read_formula}
use Rattle.syntax.specs.Write.{fields, write_row, write_formula}
use Rattle.syntax.specs.WellFormed.{SayableRow, RowAt, WellFormed}
use Rattle.formula.proofs.Good.{row_good, header_good, formula_good, good_formula}
use Rattle.formula.proofs.Judging.{Named, spare_fields, named_fields}
use Rattle.formula.proofs.Using.{good_spare, good_operand}
use Rattle.formula.proofs.Marks.{used_each, each_used}
use Rattle.formula.proofs.Spelt.{names, left, right, spelt, row_length, said}

-- ---- rows

-- what a place demands of a row; its names are bytes
pub record RowFits (p place : ℕ) (row : Row) : Type 0 where
  pub names : Named p place row
  pub sayable : SayableRow row
  pub left_byte : left row < 256
  pub right_byte : right row < 256

-- the bytes of a row, field by field
record Laid (s : List ℕ) (at o l r z b : ℕ) : Type 0 where
  operator_there : Stands s at (bytes 1 o)
  left_there : Stands s (at + left_at) (bytes 1 l)
  right_there : Stands s (at + right_at) (bytes 1 r)
  zero_there : Stands s (at + zero_at) (bytes 1 z)
  bound_there : Stands s (at + bound_at) (bytes 4 b)

laid_fields : {s : List ℕ} {at : ℕ} (o l r z b : ℕ) → Laid s at o l r z b → Stands s at (fields o l r z b)
laid_fields {s} {at} o l r z b h =
    let two : Stands s at (bytes 1 o ++ bytes 1 l) = stands_both (simp length_bytes) h.operator_there h.left_there in
    let three : Stands s at (bytes 1 o ++ bytes 1 l ++ bytes 1 r) = stands_both (simp (length-append, length_bytes) (omega arith)) two h.right_there in
    let four : Stands s at (bytes 1 o ++ bytes 1 l ++ bytes 1 r ++ bytes 1 z) = stands_both (simp (length-append, length_bytes) (omega arith)) three h.zero_there in
    stands_both (simp (length-append, length_bytes) (omega arith)) four h.bound_there

fields_laid : {s : List ℕ} {at : ℕ} (o l r z b : ℕ) → Stands s at (fields o l r z b) → Laid s at o l r z b
fields_laid {s} {at} o l r z b h =
    let four : Stands s at (bytes 1 o ++ bytes 1 l ++ bytes 1 r ++ bytes 1 z) = stands_first _ _ h in
    let three : Stands s at (bytes 1 o ++ bytes 1 l ++ bytes 1 r) = stands_first _ _ four in
    let two : Stands s at (bytes 1 o ++ bytes 1 l) = stands_first _ _ three in
    record {
      operator_there = stands_first _ _ two;
      left_there = stands_second (bytes 1 o) _ (simp length_bytes) two;
      right_there = stands_second (bytes 1 o ++ bytes 1 l) _ (simp (length-append, length_bytes) (omega arith)) three;
      zero_there = stands_second (bytes 1 o ++ bytes 1 l ++ bytes 1 r) _ (simp (length-append, length_bytes) (omega arith)) four;
      bound_there = stands_second (bytes 1 o ++ bytes 1 l ++ bytes 1 r ++ bytes 1 z) _ (simp (length-append, length_bytes) (omega arith)) h;
    }

module _ (s : List ℕ) (p : ℕ) where
  pub rows_exact : Exact s (rows s p) write_row (λ st row. RowFits p st.seen row)
  unfolding row_from fields_from
  rows_exact = record {
    reads = λ b st row e.
        let g = row_good s p st row e in
        let l = value_stands 1 b g.left_there in
        let r = value_stands 1 b g.right_there in
        let code = value_stands 4 b g.bound_there in
        let is = g.fine.is in
        let by-fields = said g.operator g.left g.right g.zero g.bound g.fine.known (rw is g.fine.spare) in
        let there = laid_fields g.operator g.left g.right g.zero g.bound (record {
          operator_there = (value_stands 1 b g.operator_there).0;
          left_there = l.0;
          right_there = r.0;
          zero_there = (value_stands 1 b g.zero_there).0;
          bound_there = code.0;
        }) in
        rw (← is) (
          rw by-fields.written there,
          record {
            names = rw is g.fine.names;
            sayable = by-fields.sayable code.1;
            left_byte = by-fields.left_below 256 (omega arith) l.1;
            right_byte = by-fields.right_below 256 (omega arith) r.1;
          },
        );
    written = λ st row stands f.
        let w = spelt row in
        let there = fields_laid w.operator (left row) (right row) 0 w.code (rw w.written at stands) in
        let operator_there : field 1 s st.at ≡ Ok w.operator = stands_field 1 (omega arith) there.operator_there (omega (arith, w.known)) in
        let left_there : field 1 s (st.at + left_at) ≡ Ok (left row) = stands_field 1 (omega arith) there.left_there f.left_byte in
        let right_there : field 1 s (st.at + right_at) ≡ Ok (right row) = stands_field 1 (omega arith) there.right_there f.right_byte in
        let zero_there : field 1 s (st.at + zero_at) ≡ Ok 0 = stands_field 1 (omega arith) there.zero_there (omega arith) in
        let bound_there : field 4 s (st.at + bound_at) ≡ Ok w.code = stands_field 4 (omega arith) there.bound_there (w.fits f.sayable) in
        let is : row_of w.operator (left row) (right row) w.code ≡ row = w.is f.sayable in
        let idle = spare_fields w.operator (left row) (right row) 0 w.code w.known (rw is w.spare) in
        let names = named_fields p st.seen w.operator (left row) (right row) w.code w.known (rw is f.names) in
        let o = w.operator in
        good_bind _ operator_there
        (good_demand _ (le-leb _ _ w.known)
        (good_bind _ (good_spare 1 s _ _ (uses_left o) left_there idle.left)
        (good_bind _ (good_spare 1 s _ _ (uses_right o) right_there idle.right)
        (good_bind _ (good_spare 1 s _ _ false zero_there idle.zero)
        (good_bind _ (good_spare 4 s _ _ (uses_bound o) bound_there idle.bound)
        (good_bind _ (good_operand s _ _ _ (uses_left o) left_there idle.left names.0)
        (good_bind _ (good_operand s _ _ _ (uses_right o) right_there idle.right names.1)
        (good_bind _ bound_there
        (rw is)))))))));
    moves = λ st row. rw row_length;
  }

module _ (s : List ℕ) (p : ℕ) where
  -- what the states demand is demanded by place
  fits_at : {st : State} {rs : List Row} → FitsAll (rows s p) (λ st row. RowFits p st.seen row) st rs → (i : ℕ) {row : Row} → RowAt rs i row → RowFits p (st.seen + i) row
  fits_at none i e = let z : ◌≡◌ {A = ℕ} 0 1 = cc in absurd (omega arith)
  fits_at (more {st} {a} f fs) zero {row} e = let is : a ≡ row = cc in rw (add-zero, ← is) f
  fits_at (more {st} f fs) (suc i) {row} e = subst (λ (n : ℕ). RowFits p n row) (omega arith) (fits_at fs i e)

  at_fits : (st : State) (rs : List Row) → ((i : ℕ) (row : Row) → RowAt rs i row → RowFits p (st.seen + i) row) → FitsAll (rows s p) (λ st row. RowFits p st.seen row) st rs
  at_fits st [] f = none
  at_fits st (row ∷ rs) f =
      more (rw add-zero at (f 0 row refl)) (at_fits ((rows s p).next st row) rs (λ i row e. subst (λ (n : ℕ). RowFits p n row) (omega arith) (f (suc i) row e)))

-- ---- whole messages

abbrev write_body : List Row → List ℕ
write_body rs = bytes 1 (length rs) ++ write_all write_row rs

body_length : (rs : List Row) → start_width + length (write_body rs) ≡ formula_length (length rs)
body_length rs = simp (length-append, length_bytes, length_write_all write_row row_width row_length) (omega arith)

-- names below k make fields below k
name_below : (k : ℕ) (ls : List ℕ) (i : ℕ) → 0 < k → ((l : ℕ) → l ∈ ls → l < k) → get_or ls i 0 < k
name_below k [] i p f = p
name_below k (l ∷ ls) zero p f = f l (Memᴰ.head refl)
name_below k (l ∷ ls) (suc i) p f = name_below k ls i p (λ m e. f m (Memᴰ.tail e))

well_fits : (p : ℕ) (rs : List Row) → WellFormed p rs → (i : ℕ) (row : Row) → RowAt rs i row → RowFits p i row
well_fits p rs w i row e =
    let place = place_lt rs i e in
    let bytes : (l : ℕ) → l ∈ names row → l < 256 =
    λ l m. ⊎_elim (λ front. ⊎_elim (λ q. omega (arith, w.propositions_named i e q, w.propositions_fit)) (λ q. omega (arith, w.earlier i e q, w.rows_fit)) (Memᴰ.append_cases (propositions row) front))
    (λ q. w.actions_fit (place-∈ rs i e) q) (Memᴰ.append_cases (propositions row ++ operands row) m) in
    record {
      names = record { existing = w.propositions_named i e; earlier = w.earlier i e; acting = w.actions_fit (place-∈ rs i e) };
      sayable = w.sayable (place-∈ rs i e);
      left_byte = name_below 256 _ 0 (omega arith) bytes;
      right_byte = name_below 256 _ 1 (omega arith) bytes;
    }

pub accepted_written : (p : ℕ) (s : List ℕ) (rs : List Row) → Bytes s → read_formula p s ≡ Ok rs → (s ≡ write_formula rs) × WellFormed p rs
unfolding write_formula
accepted_written p s rs b e =
    let g = formula_good p s rs e in
    let header = header_good s _ g.header in
    let started = start_reads formula_head b header.opened in
    let all = all_reads (rows_exact s p) b _ (start formula_header) _ g.rows_there in
    let body : Stands s start_width (write_body rs) = stands_both (simp length_bytes) (value_stands 1 b header.f_counted.there).0 all.0 in
    let rest : drop start_width s ≡ write_body rs = stands_last body (omega (arith, body_length rs, header.long)) in
    let at : (i : ℕ) (row : Row) → RowAt rs i row → RowFits p i row = λ i row e. rw zero-add at (fits_at s p all.1 i e) in (
      started.whole ∙ ap (message formula_head) rest,
      record {
        propositions_fit = g.p_most;
        some_row = header.f_counted.no_less;
        rows_fit = header.f_counted.no_more;
        propositions_named = λ i {row} e m. (at i row e).names.existing m;
        earlier = λ i {row} e m. (at i row e).names.earlier m;
        sayable = λ {row} m. let place = ∈-place m in (at place.0 row place.1).sayable;
        actions_fit = λ {row} m k. let place = ∈-place m in (at place.0 row place.1).names.acting k;
        used_once = used_each rs g.used;
      },
    )

pub written_accepted : (p : ℕ) (rs : List Row) → WellFormed p rs → read_formula p (write_formula rs) ≡ Ok rs
unfolding read_header write_formula
written_accepted p rs w =
    let s : List ℕ = message formula_head (write_body rs) in
    let long = body_length rs in
    let whole : length s ≡ formula_length (length rs) = message_length formula_head (write_body rs) ∙ (omega arith) in
    let body : Stands s start_width (write_body rs) = message_rest formula_head (write_body rs) in
    let opened = start_written (write_body rs) formula_head (omega arith) (omega arith) (omega arith) (omega arith) in
    let count_there : field 1 s rows_count.at ≡ Ok (length rs) = stands_field 1 (omega arith) (stands_first _ _ body) (omega (arith, w.rows_fit)) in
    good_formula p s rs (record {
      p_most = w.propositions_fit;
      header =
          good_after opened
          (good_bind _ (good_count s rows_count count_there w.some_row w.rows_fit) (good_demand _ (eq-eqb _ _ whole) refl));
      rows_there = all_written (rows_exact s p) (start formula_header) rs (stands_second (bytes 1 (length rs)) _ (simp length_bytes) body) (at_fits s p (start formula_header) rs (λ i row e. rw zero-add (well_fits p rs w i row e)));
      used = each_used rs w.used_once;
    })

pub accepted_exactly : (p : ℕ) (s : List ℕ) (rs : List Row) → Bytes s → (read_formula p s ≡ Ok rs) ↔ ((s ≡ write_formula rs) × WellFormed p rs)
accepted_exactly p s rs b = (accepted_written p s rs b, λ h. ap (read_formula p) h.0 ∙ written_accepted p rs h.1)

-- two well-formed lists of rows are never written alike, however many propositions they may name
widest : {p : ℕ} {rs : List Row} → WellFormed p rs → WellFormed 32 rs
widest w = record {
  propositions_fit = omega arith;
  some_row = w.some_row;
  rows_fit = w.rows_fit;
  propositions_named = λ i e m. omega (arith, w.propositions_named i e m, w.propositions_fit);
  earlier = λ i e m. w.earlier i e m;
  sayable = λ m. w.sayable m;
  actions_fit = λ m k. w.actions_fit m k;
  used_once = w.used_once;
}

pub writing_tells : {p p' : ℕ} {rs ts : List Row} → WellFormed p rs → WellFormed p' ts → write_formula rs ≡ write_formula ts → rs ≡ ts
writing_tells {rs} {ts} v w e = good_same (sym (written_accepted 32 rs (widest v)) ∙ ap (read_formula 32) e ∙ written_accepted 32 ts (widest w))
