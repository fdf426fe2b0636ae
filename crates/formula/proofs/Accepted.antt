-- What the bytes of an accepted formula message hold, by position. Assumes nothing.
use Prim.Native.Nat.{ℕ, suc, ◌+◌, ◌≤◌}
use mathlib.Core.List.{List}
use mathlib.Core.Path.{◌≡◌, refl, sym}
use lib.ListN.{length}
use native.Mathlib.Omega.{arith}
use Rattle.wire.specs.declared.State.{State}
use Rattle.wire.specs.Read.{Ok}
use Rattle.wire.specs.Reader.{read_all}
use Rattle.wire.specs.Layout.{items, Sound}
use Rattle.wire.proofs.Fields.{value_inside, value_is}
use Rattle.wire.proofs.Layouts.{Reads, ReadsAll, reads_while}
use Rattle.wire.specs.Begin.{start}
use Rattle.syntax.specs.Format.{formula_header, bound_at}
use Rattle.syntax.specs.declared.Row.{Row}
use Rattle.syntax.specs.Message.{read_row, rows, read_formula}
use Rattle.syntax.specs.Layouts.{row_at, row_layout}
use Rattle.formula.proofs.Good.{row_good, header_good, formula_good}

-- a row that is read stands there
pub row_is : (s : List ℕ) (p : ℕ) (st : State) (row : Row) → read_row s p st ≡ Ok row → row ≡ row_at s st.at
row_is s p st row e =
    let g = row_good s p st row e in
    rw (value_is 1 s _ g.operator_there, value_is 1 s _ g.left_there, value_is 1 s _ g.right_there, value_is 4 s _ g.bound_there) (sym g.fine.is)

-- and its operands are among the 64 rows that there are at most
row_reads : (s : List ℕ) (p k : ℕ) (st : State) (row : Row) → st.seen + suc k ≤ 64 → read_row s p st ≡ Ok row
    → Reads (row_layout s) (rows s p) st row × (st.seen + 1 + k ≤ 64)
row_reads s p k st row few e =
    let g = row_good s p st row e in
    let there = row_is s p st row e in (
      record {
        item_is = there;
        next_is = refl;
        ok = record {
          inside = omega (arith, value_inside 4 s (st.at + bound_at) g.bound_there);
          small = λ m. omega (arith, g.fine.names.earlier (rw (← there) at m));
        };
      },
      omega arith,
    )

pub rows_hold : (s : List ℕ) (p k : ℕ) (st : State) (rs : List Row) → st.seen + k ≤ 64 → read_all (rows s p) k st ≡ Ok rs → ReadsAll (row_layout s) (rows s p) k st rs
rows_hold s p = reads_while (row_layout s) (rows s p) (λ k st. st.seen + k ≤ 64) (row_reads s p)

-- an accepted message holds its rows one after another, and they can be scanned
pub record Holds (s : List ℕ) (rs : List Row) (f : ℕ) : Type 0 where
  pub are : rs ≡ items (row_layout s) f formula_header
  pub sound : Sound (row_layout s) f formula_header

pub accepted_holds : (p : ℕ) (s : List ℕ) (rs : List Row) → read_formula p s ≡ Ok rs → Holds s rs (length rs)
accepted_holds p s rs e =
    let g = formula_good p s rs e in
    let header = header_good s (length rs) g.header in
    let there = rows_hold s p (length rs) (start formula_header) rs (omega arith) g.rows_there in
    record { are = there.items_are; sound = there.sound }
