-- A stored number and the value that it means: each operation on values is one on stored numbers. Assumes nothing.
use mathlib.Core.Path.{◌≡◌, refl}
use Prim.Native.Nat.{ℕ, ◌+◌, ◌-◌, ◌≤◌, ◌<◌, min, max}
use native.Mathlib.Decide.{ℕ_discrete}
use native.Mathlib.Nat.{le_refl}
use native.Mathlib.Omega.{arith}
use lib.Dec.{leb}
use borrow.Author.Tests.{eq-eqb, ne_eqb, lt-leb, le-leb}
use Rattle.value.specs.Value.{Value, fin, inf, plus, greatest, least, at_most, finite, ◌⊑◌}
use Rattle.value.specs.Stored.{infinite, meaning, stored}
use Rattle.value.proofs.Values.{≤-of-⊑, inf-⊑-fin}

pub meaning_infinite : {k : ℕ} → k ≡ infinite → meaning k ≡ inf
unfolding meaning
meaning_infinite {k} h = rw (eq-eqb k infinite h)

pub meaning_finite : {k : ℕ} → ¬ (k ≡ infinite) → meaning k ≡ fin k
unfolding meaning
meaning_finite {k} h = rw (ne_eqb k infinite h)

-- by whether a stored number is infinity's
pub by_meaning : {C : Type 0} (k : ℕ) → (k ≡ infinite → meaning k ≡ inf → C) → (¬ (k ≡ infinite) → meaning k ≡ fin k → C) → C
by_meaning {C} k f g = go (ℕ_discrete k infinite)
  where
    go : Dec (k ≡ infinite) → C
    go (yes p) = f p (meaning_infinite p)
    go (no p) = g p (meaning_finite p)

-- what is stored fits 64 bits, and a number of 64 bits stores what it means
pub stored_le : (a : Value) → stored a ≤ infinite
unfolding stored
stored_le (fin a) = omega arith
stored_le inf = omega arith

pub is_stored_le : {k : ℕ} (a : Value) → k ≡ stored a → k ≤ infinite
is_stored_le a e = rw e (stored_le a)

pub stored_meaning : (k : ℕ) → k ≤ infinite → stored (meaning k) ≡ k
unfolding stored
stored_meaning k h = by_meaning k (λ p e. rw e (omega arith)) (λ p e. rw e (omega arith))

-- a value that leaves infinity's number free is what its stored number means
pub meaning_stored : (a : Value) → ((k : ℕ) → a ≡ fin k → k < infinite) → meaning (stored a) ≡ a
unfolding stored
meaning_stored (fin a) small = let h = small a refl in let e : min a infinite ≡ a = omega arith in rw e (meaning_finite (omega arith))
meaning_stored inf small = meaning_infinite refl

-- the operations on stored numbers
pub stored_plus : (w k : ℕ) → k ≤ infinite → stored (plus w (meaning k)) ≡ min (w + k) infinite
unfolding stored
stored_plus w k h = by_meaning k (λ p e. rw e (omega arith)) (λ p e. rw e)

pub stored_greatest : (a b : Value) → stored (greatest a b) ≡ max (stored a) (stored b)
unfolding stored
stored_greatest (fin a) (fin b) = omega arith
stored_greatest (fin a) inf = omega arith
stored_greatest inf (fin b) = omega arith
stored_greatest inf inf = omega arith

pub stored_least : (a b : Value) → stored (least a b) ≡ min (stored a) (stored b)
unfolding stored
stored_least (fin a) (fin b) = omega arith
stored_least (fin a) inf = omega arith
stored_least inf (fin b) = omega arith
stored_least inf inf = omega arith

-- so of two stored numbers the larger stores the greatest, the smaller the least
pub greatest_max : (a b : ℕ) → a ≤ infinite → b ≤ infinite → stored (greatest (meaning a) (meaning b)) ≡ max a b
greatest_max a b h k = rw (stored_greatest, stored_meaning a h, stored_meaning b k)

pub least_min : (a b : ℕ) → a ≤ infinite → b ≤ infinite → stored (least (meaning a) (meaning b)) ≡ min a b
least_min a b h k = rw (stored_least, stored_meaning a h, stored_meaning b k)

-- a bound, on a stored number
pub within_number : (k b : ℕ) → b < infinite → leb k b ≡ at_most (meaning k) b
within_number k b h = by_meaning k (λ p e. rw (e, lt-leb k b (omega arith))) (λ p e. rw e)

pub within_finite : (k : ℕ) → k ≤ infinite → leb k (infinite - 1) ≡ finite (meaning k)
within_finite k h = by_meaning k (λ p e. rw (e, lt-leb k (infinite - 1) (omega arith))) (λ p e. rw (e, le-leb k (infinite - 1) (omega arith)))

-- the order of values is that of their stored numbers
pub ⊑-stored : (a b : Value) → a ⊑ b → stored a ≤ stored b
unfolding stored
⊑-stored (fin a) (fin b) h = omega (arith, ≤-of-⊑ h)
⊑-stored (fin a) inf h = omega arith
⊑-stored inf (fin b) h = inf-⊑-fin h
⊑-stored inf inf h = le_refl infinite
