-- Decimal numbers: digits only, no leading zero, and the number is what the digits make; they end where the digits end. Assumes nothing.
use Prim.Native.Nat.{ℕ, zero, suc, ◌+◌, ◌*◌, ◌-◌, ◌/◌, ◌%◌, ◌^◌, ◌<◌, ◌≤◌}
use mathlib.Core.List.{List, [], ◌∷◌, ◌++◌}
use mathlib.Core.Path.{◌≡◌, refl, ap, ◌∙◌}
use mathlib.Core.Bool.{Bool, true, false, cond, ◌&&◌}
use native.Mathlib.Nat.{pow-suc}
use native.Mathlib.Omega.{arith}
use lib.Dec.{ltb, leb}
use lib.ListN.{length, get_or, length-append}
use borrow.Author.Tests.{lt-ltb, le-ltb, ltb-true, ltb-false, le-leb}
use Rattle.lists.specs.Lists.{all}
use Rattle.lists.proofs.Tests.{by_test, and_left, and_right}
use Rattle.decimals.specs.Decimal.{word, digit, decimal_in, decimal, long_decimal}

-- the bytes `0` to `9`
abbrev pub is_digit : ℕ → Bool
is_digit a = leb 48 a && ltb a 58

abbrev pub Digits : List ℕ → Type 0
Digits s = all is_digit s ≡ true

-- nothing, or another byte than a digit, stands first
abbrev pub Stops : List ℕ → Type 0
Stops r = is_digit (get_or r 0 0) ≡ false

-- ---- the two cases of a decimal number

decimal_one : (k n : ℕ) → n < 10 → decimal_in (suc k) n ≡ digit n ∷ []
unfolding decimal_in
decimal_one k n h = rw (lt-ltb n 10 h)

decimal_more : (k n : ℕ) → 10 ≤ n → decimal_in (suc k) n ≡ decimal_in k (n / 10) ++ (digit (n % 10) ∷ [])
unfolding decimal_in
decimal_more k n h = rw (le-ltb n 10 h)

-- by whether one digit is enough
by_digit : {A : Type 0} (n : ℕ) → (n < 10 → A) → (10 ≤ n → A) → A
by_digit n f g = by_test (ltb n 10) (λ e. f (ltb-true n 10 e)) (λ e. g (ltb-false n 10 e))

-- ---- digits only, at least one, and at most as many as are allowed

digit_is : (n : ℕ) → n < 10 → is_digit (digit n) ≡ true
digit_is n h = rw (le-leb 48 (48 + n) (omega arith), lt-ltb (48 + n) 58 (omega arith))

all_append : (p : ℕ → Bool) (s t : List ℕ) → all p s ≡ true → all p t ≡ true → all p (s ++ t) ≡ true
unfolding all
all_append p [] t e f = f
all_append p (a ∷ s) t e f = rw (and_left (p a) (all p s) e) (all_append p s t (and_right (p a) (all p s) e) f)

pub decimal_digits : (k n : ℕ) → Digits (decimal_in k n)
unfolding decimal_in all
decimal_digits zero n = refl
decimal_digits (suc k) n =
    by_digit n
    (λ h. rw (decimal_one k n h, digit_is n h))
    (λ h. rw (decimal_more k n h) (all_append is_digit (decimal_in k (n / 10)) (digit (n % 10) ∷ []) (decimal_digits k (n / 10)) (rw (digit_is (n % 10) (omega arith)))))

pub decimal_length : (k n : ℕ) → length (decimal_in k n) ≤ k
unfolding decimal_in
decimal_length zero n = omega arith
decimal_length (suc k) n =
    by_digit n
    (λ h. rw (decimal_one k n h) (omega arith))
    (λ h. rw (decimal_more k n h) (simp length-append (omega (arith, decimal_length k (n / 10)))))

-- ---- no leading zero, but for 0 itself

pub decimal_zero : decimal 0 ≡ word "0"
unfolding decimal_in
decimal_zero = refl

first_append : (s t : List ℕ) → 48 < get_or s 0 0 → 48 < get_or (s ++ t) 0 0
first_append [] t h = absurd (omega arith)
first_append (a ∷ s) t h = h

pub decimal_first : (k n : ℕ) → 0 < n → n < 10 ^ k → 48 < get_or (decimal_in k n) 0 0
unfolding decimal_in
decimal_first zero n p h = absurd (omega arith)
decimal_first (suc k) n p h =
    by_digit n
    (λ l. rw (decimal_one k n l) (omega arith))
    (λ l. let below : n / 10 < 10 ^ k = omega (arith, simp pow-suc at h) in rw (decimal_more k n l) (first_append (decimal_in k (n / 10)) (digit (n % 10) ∷ []) (decimal_first k (n / 10) (omega arith) below)))

-- ---- the digits make the number

-- the number that digits make, after those that made a
pub value : ℕ → List ℕ → ℕ
value a [] = a
value a (d ∷ s) = value (a * 10 + (d - 48)) s

value_last : (a : ℕ) (s : List ℕ) (d : ℕ) → value a (s ++ (d ∷ [])) ≡ value a s * 10 + (d - 48)
unfolding value
value_last a [] d = refl
value_last a (b ∷ s) d = value_last (a * 10 + (b - 48)) s d

pub decimal_value : (k n : ℕ) → n < 10 ^ k → value 0 (decimal_in k n) ≡ n
unfolding decimal_in value
decimal_value zero n h = omega arith
decimal_value (suc k) n h =
    by_digit n
    (λ l. rw (decimal_one k n l) (omega arith))
    (λ l. let below : n / 10 < 10 ^ k = omega (arith, simp pow-suc at h) in rw (decimal_more k n l, value_last, decimal_value k (n / 10) below) (omega arith))

-- ---- where the digits end

-- the digits that stand first, and what follows them
pub leading : List ℕ → List ℕ
leading [] = []
leading (a ∷ s) = cond (is_digit a) (a ∷ leading s) []

pub after : List ℕ → List ℕ
after [] = []
after (a ∷ s) = cond (is_digit a) (after s) (a ∷ s)

pub leading_digits : (s r : List ℕ) → Digits s → Stops r → leading (s ++ r) ≡ s
unfolding leading all
leading_digits [] [] d e = refl
leading_digits [] (a ∷ r) d e = rw e
leading_digits (a ∷ s) r d e = rw (and_left (is_digit a) (all is_digit s) d, leading_digits s r (and_right (is_digit a) (all is_digit s) d) e)

pub after_digits : (s r : List ℕ) → Digits s → Stops r → after (s ++ r) ≡ r
unfolding after all
after_digits [] [] d e = refl
after_digits [] (a ∷ r) d e = rw e
after_digits (a ∷ s) r d e = rw (and_left (is_digit a) (all is_digit s) d) (after_digits s r (and_right (is_digit a) (all is_digit s) d) e)

-- a decimal number that no digit follows can be cut off, and tells its number
pub decimal_read : (n : ℕ) (r : List ℕ) → n < 10 ^ 10 → Stops r → value 0 (leading (decimal n ++ r)) ≡ n
decimal_read n r h e = ap (value 0) (leading_digits (decimal n) r (decimal_digits 10 n) e) ∙ decimal_value 10 n h

pub decimal_rest : (n : ℕ) (r : List ℕ) → Stops r → after (decimal n ++ r) ≡ r
decimal_rest n r e = after_digits (decimal n) r (decimal_digits 10 n) e

-- ---- one digit after another

-- digits beyond those that a number needs change nothing
decimal_enough : (k m n : ℕ) → n < 10 ^ suc k → k ≤ m → decimal_in (suc m) n ≡ decimal_in (suc k) n
decimal_enough zero m n h more = rw (decimal_one m n h, decimal_one 0 n h)
decimal_enough (suc k) zero n h more = absurd (omega arith)
decimal_enough (suc k) (suc m) n h more =
    by_digit n
    (λ l. rw (decimal_one (suc m) n l, decimal_one (suc k) n l))
    (λ l. let below : n / 10 < 10 ^ suc k = omega (arith, simp pow-suc at h) in
    rw (decimal_more (suc m) n l, decimal_more (suc k) n l, decimal_enough k m (n / 10) below (omega arith)))

-- so a number has no more than it needs
pub decimal_short : (k n : ℕ) → n < 10 ^ suc k → k ≤ 9 → length (decimal n) ≤ suc k
decimal_short k n h few = rw (decimal_enough k 9 n h few) (decimal_length (suc k) n)

-- and a 4-byte number is written as an 8-byte one
pub long_short : (n : ℕ) → n < 10 ^ 10 → long_decimal n ≡ decimal n
long_short n h = decimal_enough 9 19 n h (omega arith)

-- all digits but the last: those of the tenth part
pub front : (k n : ℕ) → List ℕ
front k n = cond (ltb n 10) [] (decimal_in k (n / 10))

pub front_none : (k n : ℕ) → n < 10 → front k n ≡ []
unfolding front
front_none k n h = rw (lt-ltb n 10 h)

pub front_some : (k n : ℕ) → 10 ≤ n → front k n ≡ decimal_in k (n / 10)
unfolding front
front_some k n h = rw (le-ltb n 10 h)

pub decimal_last : (k n : ℕ) → n < 10 ^ suc (suc k) → decimal_in (suc (suc k)) n ≡ front (suc (suc k)) n ++ (digit (n % 10) ∷ [])
decimal_last k n h =
    by_digit n
    (λ l. let last : n % 10 ≡ n = omega arith in rw (decimal_one (suc k) n l, front_none (suc (suc k)) n l, last))
    (λ l. let below : n / 10 < 10 ^ suc k = omega (arith, simp pow-suc at h) in
    rw (decimal_more (suc k) n l, front_some (suc (suc k)) n l, decimal_enough k (suc k) (n / 10) below (omega arith)))

pub front_length : (k n : ℕ) → n < 10 ^ suc (suc k) → length (decimal_in (suc (suc k)) n) ≡ length (front (suc (suc k)) n) + 1
front_length k n h = ap length (decimal_last k n h) ∙ length-append (front (suc (suc k)) n) _
