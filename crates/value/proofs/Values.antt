-- Values by the numbers that they are at most: `a ≼ k`. A sum, a greatest and a least are known by that, and so is the order of values.
-- A name `x-≼` proves that an x is at most k, and `≼-x` says what follows from that.
-- Assumes nothing.
use mathlib.Core.Path.{◌≡◌, refl, ap, subst}
use mathlib.Core.Bool.{true, false}
use mathlib.Core.Logic.{◌⊎◌, inl, inr}
use Prim.Native.Nat.{ℕ, ◌+◌, ◌-◌, ◌≤◌}
use native.Mathlib.Nat.{le_antisymm, le_refl}
use native.Mathlib.Omega.{arith}
use lib.Dec.{leb}
use borrow.Author.Tests.{leb-true, leb-false, le-leb, eqb-true, eq-eqb}
use Rattle.lists.proofs.Tests.{by_test, clash}
use Rattle.value.specs.declared.Bound.{Bound}
use Rattle.value.specs.declared.Bound.TheVariants.{Within, Unbounded}
use Rattle.value.specs.Value.{Value, fin, inf, plus, greatest, least, at_most, finite, same, inside, meets, ◌≼◌, ◌⊑◌}

-- ---- a value is at most a number

pub fin-≼ : {a k : ℕ} → a ≤ k → fin a ≼ k
fin-≼ {a} {k} h = record { test = le-leb a k h }

pub ≼-fin : {a k : ℕ} → fin a ≼ k → a ≤ k
≼-fin {a} {k} p = leb-true a k p.test

pub ≼-inf : {A : Type 0} {k : ℕ} → inf ≼ k → A
≼-inf p = clash p.test refl

pub ≼-up : {a : Value} {j k : ℕ} → a ≼ j → j ≤ k → a ≼ k
≼-up {a = fin a} p h = let q = ≼-fin p in fin-≼ (omega arith)
≼-up {a = inf} p h = ≼-inf p

-- a target's weight and value together
pub plus-≼ : (w : ℕ) (a : Value) {j k : ℕ} → a ≼ j → w + j ≤ k → plus w a ≼ k
plus-≼ w (fin a) p h = let q = ≼-fin p in fin-≼ (omega arith)
plus-≼ w inf p h = ≼-inf p

pub ≼-plus : (w : ℕ) (a : Value) {k : ℕ} → plus w a ≼ k → (w ≤ k) × (a ≼ (k - w))
≼-plus w (fin a) p = let q = ≼-fin p in (omega arith, fin-≼ (omega arith))
≼-plus w inf p = ≼-inf p

-- a greatest is at most k where both are, a least where one is
pub greatest-≼ : (a b : Value) {k : ℕ} → a ≼ k → b ≼ k → greatest a b ≼ k
greatest-≼ (fin a) (fin b) p q = let l = ≼-fin p in let r = ≼-fin q in fin-≼ (omega arith)
greatest-≼ (fin a) inf p q = ≼-inf q
greatest-≼ inf b p q = ≼-inf p

pub ≼-greatest : (a b : Value) {k : ℕ} → greatest a b ≼ k → (a ≼ k) × (b ≼ k)
≼-greatest (fin a) (fin b) p = let l = ≼-fin p in (fin-≼ (omega arith), fin-≼ (omega arith))
≼-greatest (fin a) inf p = ≼-inf p
≼-greatest inf b p = ≼-inf p

pub least-≼ : (a b : Value) {k : ℕ} → (a ≼ k) ⊎ (b ≼ k) → least a b ≼ k
least-≼ (fin a) (fin b) (inl p) = let q = ≼-fin p in fin-≼ (omega arith)
least-≼ (fin a) (fin b) (inr p) = let q = ≼-fin p in fin-≼ (omega arith)
least-≼ (fin a) inf (inl p) = p
least-≼ (fin a) inf (inr p) = ≼-inf p
least-≼ inf b (inl p) = ≼-inf p
least-≼ inf b (inr p) = p

pub ≼-least : (a b : Value) {k : ℕ} → least a b ≼ k → (a ≼ k) ⊎ (b ≼ k)
≼-least (fin a) (fin b) p =
    let q = ≼-fin p in
    by_test (leb a b) (λ e. let h = leb-true a b e in inl (fin-≼ (omega arith))) (λ e. let h = leb-false a b e in inr (fin-≼ (omega arith)))
≼-least (fin a) inf p = inl p
≼-least inf b p = inr p

-- the test, where the value is not
pub not-≼ : {a : Value} {k : ℕ} → ¬ (a ≼ k) → at_most a k ≡ false
not-≼ {a} {k} n = by_test (at_most a k) (λ e. absurd (n (record { test = e }))) (λ e. e)

-- a value that is at most some number is finite
pub finite-≼ : (a : Value) → finite a ≡ true → (k : ℕ) × (a ≼ k)
finite-≼ (fin a) e = (a, fin-≼ (le_refl a))
finite-≼ inf e = clash e refl

pub ≼-finite : {a : Value} {k : ℕ} → a ≼ k → finite a ≡ true
≼-finite {a = fin a} p = refl
≼-finite {a = inf} p = ≼-inf p

-- ---- the order of values: a is at most every number that b is at most

pub ⊑_refl : {a : Value} → a ⊑ a
⊑_refl = record { carries = λ p. p }

pub ⊑_trans : {a b c : Value} → a ⊑ b → b ⊑ c → a ⊑ c
⊑_trans h k = record { carries = λ p. h.carries (k.carries p) }

pub ⊑-of_eq : {a b : Value} → a ≡ b → a ⊑ b
⊑-of_eq {a} e = subst (λ (b : Value). a ⊑ b) e ⊑_refl

-- the order by cases: that of the numbers, with infinity the largest
pub fin-⊑-fin : {a b : ℕ} → a ≤ b → fin a ⊑ fin b
fin-⊑-fin h = record { carries = λ p. ≼-up (fin-≼ h) (≼-fin p) }

pub ≤-of-⊑ : {a b : ℕ} → fin a ⊑ fin b → a ≤ b
≤-of-⊑ {a} {b} h = ≼-fin (h.carries (fin-≼ (le_refl b)))

pub ⊑-inf : {a : Value} → a ⊑ inf
⊑-inf = record { carries = λ p. ≼-inf p }

pub inf-⊑-fin : {A : Type 0} {b : ℕ} → inf ⊑ fin b → A
inf-⊑-fin {b = b} h = ≼-inf (h.carries (fin-≼ (le_refl b)))

pub ⊑-antisym : {a b : Value} → a ⊑ b → b ⊑ a → a ≡ b
⊑-antisym {a = fin a} {b = fin b} h k = ap fin (le_antisymm (≤-of-⊑ h) (≤-of-⊑ k))
⊑-antisym {a = fin a} {b = inf} h k = inf-⊑-fin k
⊑-antisym {a = inf} {b = fin b} h k = inf-⊑-fin h
⊑-antisym {a = inf} {b = inf} h k = refl

-- ---- the bound of a cover edge

-- what a value meets a smaller one meets
pub meets_mono : (b : Bound) {a a' : Value} → a ⊑ a' → meets b a' ≡ true → meets b a ≡ true
meets_mono (Within k) h e = (h.carries (record { test = e })).test
meets_mono Unbounded {a' = a'} h e = ≼-finite (h.carries (finite-≼ a' e).1)

-- ---- a value falls to k from another: it is at most k, and the other is not

pub record Falls (before after : Value) (k : ℕ) : Type 0 where
  pub now : after ≼ k
  pub not_before : ¬ (before ≼ k)

-- the test of equality
pub same_eq : (a b : Value) → same a b ≡ true → a ≡ b
same_eq (fin a) (fin b) e = ap fin (eqb-true a b e)
same_eq (fin a) inf e = clash e refl
same_eq inf (fin b) e = clash e refl
same_eq inf inf e = refl

same_refl : (a : Value) → same a a ≡ true
same_refl (fin a) = eq-eqb a a refl
same_refl inf = refl

pub eq_same : {a b : Value} → a ≡ b → same a b ≡ true
eq_same {a} e = subst (λ (b : Value). same a b ≡ true) e (same_refl a)

-- a smaller value that is not the same has fallen to some number
pub falls : (a b : Value) → a ⊑ b → same a b ≡ false → (k : ℕ) × Falls b a k
falls (fin a) b h e = (
  a,
  record { now = fin-≼ (le_refl a); not_before = λ p. clash (eq_same (⊑-antisym h (record { carries = λ q. ≼-up p (≼-fin q) }))) e },
)
falls inf (fin b) h e = inf-⊑-fin h
falls inf inf h e = clash refl e

-- a value that meets a bound that another does not has fallen to some number
pub meets_falls : (b : Bound) (a a' : Value) → meets b a ≡ true → meets b a' ≡ false → (k : ℕ) × Falls a' a k
meets_falls (Within k) a a' e f = (k, record { now = record { test = e }; not_before = λ p. clash p.test f })
meets_falls Unbounded a a' e f = let r = finite-≼ a e in (r.0, record { now = r.1; not_before = λ p. clash (≼-finite p) f })

-- of two values one is at most the other
pub ⊑-total : (a b : Value) → (a ⊑ b) ⊎ (b ⊑ a)
⊑-total (fin a) (fin b) =
    by_test (leb a b) (λ e. inl (fin-⊑-fin (leb-true a b e))) (λ e. let h = leb-false a b e in inr (fin-⊑-fin (omega arith)))
⊑-total (fin a) inf = inl ⊑-inf
⊑-total inf b = inr ⊑-inf

-- ---- the numbers within a bound

pub inside_zero : (b : Bound) → inside b 0 ≡ true
inside_zero (Within k) = le-leb 0 k (omega arith)
inside_zero Unbounded = refl

pub inside_le : (b : Bound) {m n : ℕ} → m ≤ n → inside b n ≡ true → inside b m ≡ true
inside_le (Within k) {m} {n} l e = let h = leb-true n k e in le-leb m k (omega arith)
inside_le Unbounded l e = refl

-- a value meets a bound exactly where it is at most a number within it
pub inside_meets : (b : Bound) {a : Value} {k : ℕ} → inside b k ≡ true → a ≼ k → meets b a ≡ true
inside_meets (Within n) {k = k} e p = (≼-up p (leb-true k n e)).test
inside_meets Unbounded e p = ≼-finite p

pub meets_inside : (b : Bound) (a : Value) → meets b a ≡ true → (k : ℕ) × (inside b k ≡ true) × (a ≼ k)
meets_inside (Within n) a e = (n, le-leb n n (le_refl n), record { test = e })
meets_inside Unbounded a e = let r = finite-≼ a e in (r.0, refl, r.1)
