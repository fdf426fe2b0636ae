-- A label is below 2 ^ p exactly when it has no bit at p or above. Assumes nothing.
use Prim.Native.Nat.{ℕ, zero, suc, ◌+◌, ◌-◌, ◌^◌, ◌/◌, ◌%◌, ◌≤◌, ◌<◌}
use mathlib.Core.Bool.{false}
use mathlib.Core.Logic.{◌↔◌}
use mathlib.Core.Path.{◌≡◌}
use native.Mathlib.Nat.{add-zero, add-suc, pow-suc, pow-le-pow_right, one-le-pow, div-eq_of_lt, div-lt_iff_lt-mul}
use native.Mathlib.Omega.{arith}
use borrow.Author.Tests.{eqb-false}
use Rattle.model.specs.Model.{bit}

-- a number below 2 ^ i has no bit at i
no_bit : (label i : ℕ) → label < 2 ^ i → bit label i ≡ false
no_bit label i below = rw (div-eq_of_lt below)

-- without its highest bit a number is below that bit
below_bit : (label i : ℕ) → label < 2 ^ suc i → bit label i ≡ false → label < 2 ^ i
below_bit label i below none =
    let some : 0 < 2 ^ i = one-le-pow i 2 (omega arith) in
    let half : label / 2 ^ i < 2 = (div-lt_iff_lt-mul some).1 (omega (arith, pow-suc 2 i)) in
    omega (arith, (div-lt_iff_lt-mul {k = 2 ^ i} {x = label} {y = 1} some).0 (omega (arith, eqb-false (label / 2 ^ i % 2) 1 none)))

-- so without the d highest bits it is below the lowest of these
below_bits : (d label p : ℕ) → label < 2 ^ (p + d) → ((i : ℕ) → p ≤ i → i < p + d → bit label i ≡ false) → label < 2 ^ p
below_bits zero label p below none = rw add-zero at below
below_bits (suc d) label p below none =
    below_bits d label p (below_bit label (p + d) (rw add-suc at below) (none (p + d) (omega arith) (omega arith))) (λ i from to. none i from (omega arith))

-- over the number of bits
pub below_exactly : (bits label p : ℕ) → label < 2 ^ bits → p ≤ bits → (label < 2 ^ p) ↔ ((i : ℕ) → p ≤ i → i < bits → bit label i ≡ false)
below_exactly bits label p fits most =
    let all : p + (bits - p) ≡ bits = omega arith in (
      λ below i from to. no_bit label i (omega (arith, pow-le-pow_right {n = 2} (omega arith) {i = p} {j = i} from)),
      λ none. below_bits (bits - p) label p (rw all fits) (λ i from to. none i from (omega arith)),
    )

-- what the check of a label tests is the paper's rule
pub label_exactly : (label p : ℕ) → label < 2 ^ 32 → p ≤ 32 → (label < 2 ^ p) ↔ ((i : ℕ) → p ≤ i → i < 32 → bit label i ≡ false)
label_exactly = below_exactly 32
