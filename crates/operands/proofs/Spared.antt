-- Fields told as numbers: a row's fields, those that its operator doesn't use looked at together. Assumes nothing.
use Prim.Native.Nat.{ℕ, ◌+◌}
use mathlib.Core.Bool.{Bool, true, false, cond}
use mathlib.Core.List.{List}
use mathlib.Core.Path.{◌≡◌, refl, sym, ◌∙◌}
use native.Mathlib.Omega.{arith}
use lib.Dec.{eqb, ltb}
use borrow.Author.Tests.{eqb-true, eqb-false, lt-ltb, le-ltb}
use Rattle.lists.proofs.Tests.{by_test}
use Rattle.refusal.specs.declared.Refusal.TheVariants.{Form}
use Rattle.wire.specs.Read.{Read, Ok, Err, ◌>>=◌, ◌>>◌, demand, field, below}
use Rattle.wire.proofs.Reading.{reading}
use Rattle.kinds.specs.declared.Fields.{Fields}
use Rattle.syntax.specs.declared.Row.{Row}
use Rattle.syntax.specs.Format.{left_at, right_at, zero_at, bound_at}
use Rattle.syntax.specs.Rows.{row_of, uses_left, uses_right, left_limit, right_limit}
use Rattle.syntax.specs.Message.{spare, operand, fields_from}
use Rattle.kinds.specs.Told.{Told, unused}
use Rattle.operands.proofs.Operators.{Uses}

-- a number is below one where it is zero
zero_below : (n : ℕ) → ltb n 1 ≡ eqb n 0
zero_below n = by_test (eqb n 0) (λ t. lt-ltb n 1 (omega (arith, eqb-true n 0 t)) ∙ sym t) (λ f. le-ltb n 1 (omega (arith, eqb-false n 0 f)) ∙ sym f)

-- what follows a reading that demands something first
demand_then : {A B : Type 0} (x : Read Unit) (r : Read A) (k : A → Read B) → (x >> r) >>= k ≡ x >> (r >>= k)
unfolding ◌>>=◌ ◌>>◌
demand_then (Ok u) r k = refl
demand_then (Err e) r k = refl

-- a field that is there is spare where it is used, or zero
spare_told : {B : Type 0} (used : Bool) (k : ℕ) (s : List ℕ) (at offset : ℕ) {n : ℕ} {x y : Read B} → field k s at ≡ Ok n → x ≡ y
    → (spare used k s at offset >>= λ u. x) ≡ demand (eqb (cond used 0 n) 0) Form offset >> y
unfolding spare below
spare_told true k s at offset there e = simp (reading, e)
spare_told false k s at offset {n} there e = simp (there, reading, demand_then, zero_below n, e)

-- the fields that an operator uses
unfoldable pub names_from : List ℕ → (offset p place operator : ℕ) → Read Row
names_from s offset p place o = do
  left ← operand (uses_left o) s left_at (left_limit p place o) (offset + left_at)
  right ← operand (uses_right o) s right_at (right_limit place o) (offset + right_at)
  bound ← field 4 s bound_at
  Ok (row_of o left right bound)

-- a row's fields: those that its operator doesn't use, then the others
pub fields_told : {s : List ℕ} {f : Fields} → Told s f → {o : ℕ} {left right bound proposition : Bool} → Uses o left right bound proposition → (offset p place : ℕ)
    → fields_from s 0 offset p place o ≡ unused offset (record { left = cond left 0 f.left; right = cond right 0 f.right; zero = f.zero; bound = cond bound 0 f.bound }) >>= λ u. names_from s offset p place o
unfolding fields_from names_from unused
fields_told {s} t {o} {left} {right} {bound} u offset p place =
    rw (u.of_left, u.of_right, u.of_bound)
    (spare_told left 1 s left_at (offset + left_at) t.left_told
    (spare_told right 1 s right_at (offset + right_at) t.right_told
    (spare_told false 1 s zero_at (offset + zero_at) t.zero_told
    (spare_told bound 4 s bound_at (offset + bound_at) t.bound_told refl)))
    ∙ sym (simp (demand_then, reading)))
