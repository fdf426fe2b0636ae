-- `sizing::count_untils` meets its contract: those counted, and those to come, make the whole.
use Prim.Native.Nat.{ℕ, ◌+◌, ◌<◌}
use mathlib.Core.Bool.{true, false}
use mathlib.Core.List.{List}
use mathlib.Core.Path.{◌≡◌, sym, ap, ◌∙◌}
use native.Mathlib.Omega.{arith}
use lib.ListN.{length}
use Rattle.lists.specs.Making.{keep}
use Rattle.lists.proofs.Kept.{keep_length, keep_pass, keep_fail}
use Rattle.syntax.specs.declared.Row.{Row}
use Rattle.syntax.specs.Format.{place_of}
use Rattle.syntax.specs.Layouts.{row_at}
use Rattle.reduction.specs.Built.{is_until, untils}
use Rattle.transitions.specs.Views.{rows_of}
use Rattle.transitions.proofs.Accepted.{rows_length, rows_after, rows_first, rows_left, rows_none}
use Rattle.sizing.proofs.Untils.{not_until}
use Rattle.sizing.proofs.count_untils.Goals as goal
use Rattle.sizing.proofs.count_untils.Goals.{in-Until, in_default}

-- the row at hand is an until, or not
module _ (f : List ℕ) (k i : ℕ) (below : i < k) (row : Row) (here : row ≡ row_at f (place_of i)) where
  until : is_until row ≡ true → length (untils (rows_after f k i)) ≡ 1 + length (untils (rows_after f k (i + 1)))
  until is = rw (rows_left f k i below) (ap length (keep_pass is_until (row_at f (place_of i)) (rows_after f k (i + 1)) (ap is_until (sym here) ∙ is)) ∙ omega arith)

  other : is_until row ≡ false → length (untils (rows_after f k i)) ≡ length (untils (rows_after f k (i + 1)))
  other is = rw (rows_left f k i below) (ap length (keep_fail is_until (row_at f (place_of i)) (rows_after f k (i + 1)) (ap is_until (sym here) ∙ is)))

pub loop-i-init : goal.loop-i-init
loop-i-init c = rw (rows_first c.args.f.bytes.now c.args.f.rows) (omega arith)

pub overflow_add-untils : goal.overflow_add-untils
overflow_add-untils c =
    let f = c.args.f in
    let one = until f.bytes.now f.rows c.loop-i.i c.loop-i-test.true c.row.result c.row.ensures (ap is_until c.in-Until.is) in
    omega (arith, one, keep_length is_until (rows_of f), rows_length f.bytes.now f.rows, f.holds.rows_fit, c.loop-i.invariant)

pub loop-i-preserved : goal.loop-i-preserved
loop-i-preserved c =
    let f = c.args.f in
    let i = c.loop-i.i in
    let row = c.row.result in
    let one = until f.bytes.now f.rows i c.loop-i-test.true row c.row.ensures in
    let none = other f.bytes.now f.rows i c.loop-i-test.true row c.row.ensures in
    elim c.match-row.branch [
      | in-Until w ↦ omega (arith, w.untils-is, one (ap is_until w.in-Until.is), c.loop-i.invariant)
      | in_default w ↦ omega (arith, w.untils-is, none (not_until row w.in_default.not-Until), c.loop-i.invariant)
    ]

pub returns : goal.returns
unfolding keep
returns c = let none = rw (rows_none c.args.f.bytes.now c.args.f.rows c.loop-i.i c.loop-i-test.false) at c.loop-i.invariant in omega (arith, none)
