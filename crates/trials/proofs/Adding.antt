-- Sums over lists put together, and over a number's bytes. Assumes nothing.
use Rattle.std.proofs.Common.{◌≡◌, ℕ, zero, suc, ◌+◌, ◌-◌, ◌/◌, ◌%◌, ◌<◌, ◌≤◌, List, [], ◌∷◌, ◌++◌, length, get_or, drop, sym, ap, ◌∙◌, refl, add-one, sub-one, arith, drop-cons, le-ltb, lt-ltb}
use Rattle.wire.specs.Bytes.{bytes}
use Rattle.trials.specs.Sums.{after, after_all, spread, claimed_values}

pub after_both : (sum : ℕ) (a b : List ℕ) → after_all sum (a ++ b) ≡ after_all (after_all sum a) b
unfolding after_all
after_both sum [] b = refl
after_both sum (x ∷ a) b = after_both (after sum x) a b

-- the last byte of a number is added last
pub after_last : (sum n k : ℕ) → 0 < k → after_all sum (bytes k n) ≡ after (after_all sum (bytes (k - 1) (n / 256))) (n % 256)
unfolding after_all bytes
after_last sum n zero h = absurd (omega arith)
after_last sum n (suc k) h = rw sub-one (after_both sum (bytes k (n / 256)) (n % 256 ∷ []))

-- the byte at a place is added next
pub after_next : (sum : ℕ) (s : List ℕ) (i : ℕ) → i < length s → after_all sum (drop i s) ≡ after_all (after sum (get_or s i 0)) (drop (i + 1) s)
unfolding after_all
after_next sum s i h = rw (add-one, drop-cons s i 0)

pub after_next_item : {A : Type 0} (f : A → List ℕ) (sum : ℕ) (s : List A) (i : ℕ) (a : A) → i < length s → a ≡ get_or s i a
    → after_all sum (spread f (drop i s)) ≡ after_all (after_all sum (f a)) (spread f (drop (i + 1) s))
unfolding spread
after_next_item f sum s i a h e = rw (add-one, drop-cons s i a) (after_both sum (f (get_or s i a)) (spread f (drop (suc i) s)) ∙ ap (λ x. after_all (after_all sum (f x)) (spread f (drop (suc i) s))) (sym e))

-- a byte of claims that is a value's is added next, and another is left out
pub claimed_next : (sum : ℕ) (s : List ℕ) (i : ℕ) → i < length s → i % 16 < 8 → after_all sum (claimed_values i (drop i s)) ≡ after_all (after sum (get_or s i 0)) (claimed_values (i + 1) (drop (i + 1) s))
unfolding after_all claimed_values
claimed_next sum s i h l = rw (add-one, drop-cons s i 0, lt-ltb (i % 16) 8 l)

pub claimed_past : (sum : ℕ) (s : List ℕ) (i : ℕ) → i < length s → 8 ≤ i % 16 → after_all sum (claimed_values i (drop i s)) ≡ after_all sum (claimed_values (i + 1) (drop (i + 1) s))
unfolding claimed_values
claimed_past sum s i h l = rw (add-one, drop-cons s i 0, le-ltb (i % 16) 8 l)
