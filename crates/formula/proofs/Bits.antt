-- The bits of a number: after one was set, and of the number whose n lowest bits are set and no other. Assumes nothing.
use Prim.Native.Nat.{ℕ, zero, suc, ◌+◌, ◌*◌, ◌-◌, ◌/◌, ◌%◌, ◌^◌, ◌<◌, ◌≤◌}
use mathlib.Core.Path.{◌≡◌, refl, sym, ap, ◌∙◌}
use native.Mathlib.Decide.{dec_lt}
use native.Mathlib.Nat.{div-eq_of_lt, div-one, div-add-mod', div-lt_iff_lt-mul, mod-lt, one-mul, mul-mod_left, pow-suc}
use native.Mathlib.Numerals.{one-add}
use native.Mathlib.Omega.{arith}
use lib.Arith.{bin_ind}
use lib.Bits.{bit_or, or_zero_r, or_shr, or_mod}
use lib.Pow.{pow_pos, pow-lt, pow-add, shl_exact, shl-shr, shr-shr, high, low, ones_lt, ones_split}
use Rattle.formula.specs.Marked.{bit_of}

-- ---- one bit more

-- 1 is shifted within 64 bits
pub one_shifted : (k : ℕ) → k < 64 → 1 * 2 ^ k % 2 ^ 64 ≡ 2 ^ k
one_shifted k h = shl_exact 1 k 64 (omega arith) (omega arith) ∙ one-mul (2 ^ k)

or_bit : (a b i : ℕ) → bit_of (bit_or a b) i ≡ bit_or (bit_of a i) (bit_of b i)
or_bit a b i = ap (λ (n : ℕ). n % 2) (or_shr a b i) ∙ or_mod (a / 2 ^ i) (b / 2 ^ i) 1

power_same : (i : ℕ) → bit_of (2 ^ i) i ≡ 1
power_same i = ap (λ (n : ℕ). n / 2 ^ i % 2) (sym (one-mul (2 ^ i))) ∙ ap (λ (n : ℕ). n % 2) (shl-shr 1 i)

power_below : (k i : ℕ) → i < k → bit_of (2 ^ k) i ≡ 0
power_below k i h =
    let more : ℕ = k - i - 1 in
    let split : 2 ^ k ≡ 2 ^ suc more * 2 ^ i = ap (λ (n : ℕ). 2 ^ n) (omega arith) ∙ pow-add 2 (suc more) i in
    ap (λ (n : ℕ). n / 2 ^ i % 2) split ∙ ap (λ (n : ℕ). n % 2) (shl-shr (2 ^ suc more) i ∙ pow-suc 2 more) ∙ mul-mod_left (2 ^ more) 2

power_above : (k i : ℕ) → k < i → bit_of (2 ^ k) i ≡ 0
power_above k i h = ap (λ (n : ℕ). n % 2) (div-eq_of_lt (pow-lt h))

or_one : (d : ℕ) → d < 2 → bit_or d 1 ≡ 1
or_one zero h = refl
or_one (suc zero) h = refl
or_one (suc (suc d)) h = absurd (omega arith)

module _ (a k : ℕ) where
  pub set_same : bit_of (bit_or a (2 ^ k)) k ≡ 1
  set_same = or_bit a (2 ^ k) k ∙ ap (bit_or (bit_of a k)) (power_same k) ∙ or_one (bit_of a k) (mod-lt (a / 2 ^ k) (omega arith))

  pub set_other : (i : ℕ) → (k ≡ i → ⊥) → bit_of (bit_or a (2 ^ k)) i ≡ bit_of a i
  set_other i n = or_bit a (2 ^ k) i ∙ ap (bit_or (bit_of a i)) (go (dec_lt i k)) ∙ or_zero_r (bit_of a i)
    where
      go : Dec (i < k) → bit_of (2 ^ k) i ≡ 0
      go (yes h) = power_below k i h
      go (no h) = power_above k i (omega arith)

-- ---- the n lowest bits

bit_half : (a i : ℕ) → bit_of (a / 2) i ≡ bit_of a (suc i)
bit_half a i = ap (λ (n : ℕ). n % 2) (shr-shr a 1 i ∙ ap (λ (n : ℕ). a / 2 ^ n) (one-add i))

bit_first : (a : ℕ) → bit_of a 0 ≡ a % 2
bit_first a = ap (λ (n : ℕ). n % 2) (div-one a)

no_bit : (a : ℕ) → ((i : ℕ) → bit_of a i ≡ 0) → a ≡ 0
no_bit =
    bin_ind (λ a. ((i : ℕ) → bit_of a i ≡ 0) → a ≡ 0) (λ none. refl)
    (λ a rest none. omega (arith, rest (λ i. bit_half a i ∙ none (suc i)), sym (bit_first a) ∙ none 0, div-add-mod' a 2))

-- bits below n only
pub bits_below : (n a : ℕ) → ((i : ℕ) → n ≤ i → bit_of a i ≡ 0) → a < 2 ^ n
bits_below n a clear =
    let above : a / 2 ^ n ≡ 0 = no_bit (a / 2 ^ n) (λ i. ap (λ (m : ℕ). m % 2) (shr-shr a n i) ∙ clear (n + i) (omega arith)) in
    rw one-mul at ((div-lt_iff_lt-mul {x = a} {y = 1} (pow_pos n)).0 (omega arith))

-- all bits below n: the number is one below a power
pub all_set : (n a : ℕ) → a + 1 ≡ 2 ^ n → (i : ℕ) → i < n → bit_of a i ≡ 1
all_set n a full i h =
    let more : ℕ = n - i - 1 in
    let parts : 2 ^ n - 1 ≡ (2 ^ (more + 1) - 1) * 2 ^ i + (2 ^ i - 1) = ap (λ (m : ℕ). 2 ^ m - 1) (omega arith) ∙ ones_split (more + 1) i in
    ap (λ (m : ℕ). m / 2 ^ i % 2) (omega arith ∙ parts)
    ∙ ap (λ (m : ℕ). m % 2) (high (2 ^ (more + 1) - 1) i (ones_lt i) ∙ ones_split more 1)
    ∙ low (2 ^ more - 1) 1 (ones_lt 1)

pub set_all : (n a : ℕ) → ((i : ℕ) → i < n → bit_of a i ≡ 1) → ((i : ℕ) → n ≤ i → bit_of a i ≡ 0) → a + 1 ≡ 2 ^ n
set_all zero a set clear = omega (arith, no_bit a (λ i. clear i (omega arith)))
set_all (suc n) a set clear =
    let half = set_all n (a / 2) (λ i h. bit_half a i ∙ set (suc i) (omega arith)) (λ i h. bit_half a i ∙ clear (suc i) (omega arith)) in
    omega (arith, half, sym (bit_first a) ∙ set 0 (omega arith), div-add-mod' a 2, pow-suc 2 n)
