-- The fields of a row: those that it is written with, and that fields without a fault are those of their row. Assumes nothing.
use Prim.Native.Nat.{ℕ, ◌^◌, ◌≤◌, ◌<◌}
use mathlib.Core.Bool.{Bool, true, ◌&&◌}
use mathlib.Core.List.{List, ◌++◌}
use mathlib.Core.Path.{◌≡◌, refl, ap}
use native.Mathlib.Omega.{arith}
use lib.Dec.{eqb}
use lib.ListN.{length, get_or, length-append}
use borrow.Author.Tests.{eqb-true}
use Rattle.lists.proofs.Tests.{and_left, and_right}
use Rattle.value.specs.Coded.{code_of}
use Rattle.value.proofs.Coded.{code_bound, bound_sayable, bound_code, code_fits}
use Rattle.wire.proofs.Bytes.{length_bytes}
use Rattle.syntax.specs.Format.{row_width}
use Rattle.syntax.specs.declared.Quantifier.TheVariants.{Some, Every}
use Rattle.syntax.specs.declared.Action.TheVariants.{Any, Only}
use Rattle.syntax.specs.declared.Row.{Row}
use Rattle.syntax.specs.declared.Row.TheVariants.{True, False, Proposition, Negation, And, Or, Next, Until}
use Rattle.syntax.specs.Rows.{row_of, operands, propositions, actions}
use Rattle.syntax.specs.Write.{fields, write_row}
use Rattle.syntax.specs.WellFormed.{SayableRow}
use Rattle.operands.proofs.Operators.{by_operator}

-- left and right are the names that the row has, and zero where it has none
abbrev pub names : Row → List ℕ
names row = propositions row ++ operands row ++ actions row

abbrev pub left : Row → ℕ
left row = get_or (names row) 0 0

abbrev pub right : Row → ℕ
right row = get_or (names row) 1 0

-- the fields that the row doesn't use, of left, right, zero and bound, are zero; zero is never used
abbrev pub spare_zero : Row → (left right zero bound : ℕ) → Bool
spare_zero True l r z b = eqb l 0 && (eqb r 0 && (eqb z 0 && eqb b 0))
spare_zero False l r z b = eqb l 0 && (eqb r 0 && (eqb z 0 && eqb b 0))
spare_zero (Proposition i) l r z b = eqb r 0 && (eqb z 0 && eqb b 0)
spare_zero (Negation i) l r z b = eqb r 0 && (eqb z 0 && eqb b 0)
spare_zero (And x y) l r z b = eqb z 0 && eqb b 0
spare_zero (Or x y) l r z b = eqb z 0 && eqb b 0
spare_zero (Next q Any x k) l r z b = eqb r 0 && eqb z 0
spare_zero (Next q (Only a) x k) l r z b = eqb z 0
spare_zero (Until q x y k) l r z b = eqb z 0

-- the fields that a row is written with give the row back, and those that it doesn't use are zero
pub record Spelt (row : Row) : Type 0 where
  pub operator : ℕ
  pub code : ℕ
  pub written : write_row row ≡ fields operator (left row) (right row) 0 code
  pub known : operator ≤ 11
  pub spare : spare_zero row (left row) (right row) 0 code ≡ true
  pub is : SayableRow row → row_of operator (left row) (right row) code ≡ row
  pub fits : SayableRow row → code < 2 ^ 32

pub spelt : (row : Row) → Spelt row
unfolding row_of write_row
spelt True = record { operator = 0; code = 0; written = refl; known = omega arith; spare = refl; is = λ s. refl; fits = λ s. omega arith }
spelt False = record { operator = 1; code = 0; written = refl; known = omega arith; spare = refl; is = λ s. refl; fits = λ s. omega arith }
spelt (Proposition q) = record { operator = 2; code = 0; written = refl; known = omega arith; spare = refl; is = λ s. refl; fits = λ s. omega arith }
spelt (Negation q) = record { operator = 3; code = 0; written = refl; known = omega arith; spare = refl; is = λ s. refl; fits = λ s. omega arith }
spelt (And l r) = record { operator = 4; code = 0; written = refl; known = omega arith; spare = refl; is = λ s. refl; fits = λ s. omega arith }
spelt (Or l r) = record { operator = 5; code = 0; written = refl; known = omega arith; spare = refl; is = λ s. refl; fits = λ s. omega arith }
spelt (Next Some Any l b) =
    record { operator = 6; code = code_of b; written = refl; known = omega arith; spare = refl; is = λ s. ap (Next Some Any l) (bound_code b s); fits = code_fits b }
spelt (Next Every Any l b) =
    record { operator = 7; code = code_of b; written = refl; known = omega arith; spare = refl; is = λ s. ap (Next Every Any l) (bound_code b s); fits = code_fits b }
spelt (Until Some l r b) =
    record { operator = 8; code = code_of b; written = refl; known = omega arith; spare = refl; is = λ s. ap (Until Some l r) (bound_code b s); fits = code_fits b }
spelt (Until Every l r b) =
    record { operator = 9; code = code_of b; written = refl; known = omega arith; spare = refl; is = λ s. ap (Until Every l r) (bound_code b s); fits = code_fits b }
spelt (Next Some (Only k) l b) =
    record { operator = 10; code = code_of b; written = refl; known = omega arith; spare = refl; is = λ s. ap (Next Some (Only k) l) (bound_code b s); fits = code_fits b }
spelt (Next Every (Only k) l b) =
    record { operator = 11; code = code_of b; written = refl; known = omega arith; spare = refl; is = λ s. ap (Next Every (Only k) l) (bound_code b s); fits = code_fits b }

pub row_length : (row : Row) → length (write_row row) ≡ row_width
row_length row = rw (spelt row).written (simp (length-append, length_bytes))

-- a row without fault is written with the fields that it was read from, whose names and bound it has
pub record Said (o l r z b : ℕ) (row : Row) : Type 0 where
  pub written : write_row row ≡ fields o l r z b
  pub sayable : b < 2 ^ 32 → SayableRow row
  pub left_below : (k : ℕ) → 0 < k → l < k → left row < k
  pub right_below : (k : ℕ) → 0 < k → r < k → right row < k

-- all of four fields are zero
zeros : (l r z b : ℕ) → (eqb l 0 && (eqb r 0 && (eqb z 0 && eqb b 0))) ≡ true → (l ≡ 0) × (r ≡ 0) × (z ≡ 0) × (b ≡ 0)
zeros l r z b e =
    let rest = and_right (eqb l 0) (eqb r 0 && (eqb z 0 && eqb b 0)) e in
    let last = and_right (eqb r 0) (eqb z 0 && eqb b 0) rest in (
      eqb-true l 0 (and_left (eqb l 0) (eqb r 0 && (eqb z 0 && eqb b 0)) e),
      eqb-true r 0 (and_left (eqb r 0) (eqb z 0 && eqb b 0) rest),
      eqb-true z 0 (and_left (eqb z 0) (eqb b 0) last),
      eqb-true b 0 (and_right (eqb z 0) (eqb b 0) last),
    )

pub said : (o l r z b : ℕ) → o ≤ 11 → spare_zero (row_of o l r b) l r z b ≡ true → Said o l r z b (row_of o l r b)
unfolding row_of write_row
said o l r z b =
    by_operator (λ (o : ℕ). spare_zero (row_of o l r b) l r z b ≡ true → Said o l r z b (row_of o l r b))
    (λ e. let n = zeros l r z b e in record { written = rw (n.0, n.1, n.2, n.3); sayable = λ h. tt; left_below = λ k p h. p; right_below = λ k p h. p })
    (λ e. let n = zeros l r z b e in record { written = rw (n.0, n.1, n.2, n.3); sayable = λ h. tt; left_below = λ k p h. p; right_below = λ k p h. p })
    (λ e. let n = zeros 0 r z b e in record { written = rw (n.1, n.2, n.3); sayable = λ h. tt; left_below = λ k p h. h; right_below = λ k p h. p })
    (λ e. let n = zeros 0 r z b e in record { written = rw (n.1, n.2, n.3); sayable = λ h. tt; left_below = λ k p h. h; right_below = λ k p h. p })
    (λ e. let n = zeros 0 0 z b e in record { written = rw (n.2, n.3); sayable = λ h. tt; left_below = λ k p h. h; right_below = λ k p h. h })
    (λ e. let n = zeros 0 0 z b e in record { written = rw (n.2, n.3); sayable = λ h. tt; left_below = λ k p h. h; right_below = λ k p h. h })
    (λ e. let z-is = eqb-true z 0 (and_right (eqb r 0) (eqb z 0) e) in let r-is = eqb-true r 0 (and_left (eqb r 0) (eqb z 0) e) in record { written = rw (z-is, r-is, code_bound); sayable = bound_sayable b; left_below = λ k p h. h; right_below = λ k p h. p })
    (λ e. let z-is = eqb-true z 0 (and_right (eqb r 0) (eqb z 0) e) in let r-is = eqb-true r 0 (and_left (eqb r 0) (eqb z 0) e) in record { written = rw (z-is, r-is, code_bound); sayable = bound_sayable b; left_below = λ k p h. h; right_below = λ k p h. p })
    (λ e. let z-is = eqb-true z 0 e in record { written = rw (z-is, code_bound); sayable = bound_sayable b; left_below = λ k p h. h; right_below = λ k p h. h })
    (λ e. let z-is = eqb-true z 0 e in record { written = rw (z-is, code_bound); sayable = bound_sayable b; left_below = λ k p h. h; right_below = λ k p h. h })
    (λ e. let z-is = eqb-true z 0 e in record { written = rw (z-is, code_bound); sayable = bound_sayable b; left_below = λ k p h. h; right_below = λ k p h. h })
    (λ e. let z-is = eqb-true z 0 e in record { written = rw (z-is, code_bound); sayable = bound_sayable b; left_below = λ k p h. h; right_below = λ k p h. h })
    o
