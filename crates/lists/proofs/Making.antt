-- The elements of lists that are made by a test or number by number; a list made number by number from the front, and how long it is.
-- Assumes nothing.
use mathlib.Core.Path.{◌≡◌, refl, ap₂}
use mathlib.Core.Bool.{Bool, true, false, cond}
use mathlib.Core.Logic.{◌⊎◌, inl, inr}
use mathlib.Core.List.Memᴰ
use mathlib.Core.List.{List, [], ◌∷◌, ◌++◌}
use Prim.Native.Nat.{ℕ, zero, suc, ◌+◌, ◌*◌, ◌-◌, ◌≤◌, ◌<◌}
use native.Mathlib.Nat.{eq-or-lt_of_le}
use native.Mathlib.Numerals.{add-one}
use native.Mathlib.Omega.{arith}
use lib.ListN.{length, length-append}
use Rattle.lists.specs.Lists.{◌∈◌}
use Rattle.lists.specs.Making.{keep, span}

module _ {A : Type 0} (p : A → Bool) where
  -- what is kept is an element that passes the test, and such an element is kept
  pub ∈-keep : {a : A} (l : List A) → a ∈ keep p l → (a ∈ l) × (p a ≡ true)
  unfolding keep
  ∈-keep [] m = elim m [ ]
  ∈-keep {a} (c ∷ l) m = go (p c) refl m (∈-keep l)
    where
      go : (t : Bool) → p c ≡ t → a ∈ cond t (c ∷ keep p l) (keep p l) → (a ∈ keep p l → (a ∈ l) × (p a ≡ true)) → (a ∈ (c ∷ l)) × (p a ≡ true)
      go true e (Memᴰ.head q) rest = (Memᴰ.head q, rw (q, e))
      go true e (Memᴰ.tail k) rest = let r = rest k in (Memᴰ.tail r.0, r.1)
      go false e k rest = let r = rest k in (Memᴰ.tail r.0, r.1)

  pub keep-∈ : {a : A} {l : List A} → a ∈ l → p a ≡ true → a ∈ keep p l
  unfolding keep
  keep-∈ (Memᴰ.head e) t = rw (rw e at t) (Memᴰ.head e)
  keep-∈ {a} {l = c ∷ l} (Memᴰ.tail m) t = go (p c) (keep-∈ m t)
    where
      go : (t : Bool) → a ∈ keep p l → a ∈ cond t (c ∷ keep p l) (keep p l)
      go true k = Memᴰ.tail k
      go false k = k

module _ {B : Type 0} (f : ℕ → List B) where
  -- what a number of the span gives stands in it, and nothing else does
  pub ∈-span : {b : B} (a n : ℕ) → b ∈ span f a n → (c : ℕ) × (a ≤ c) × (c < a + n) × (b ∈ f c)
  unfolding span
  ∈-span a zero m = elim m [ ]
  ∈-span {b} a (suc n) m = go (Memᴰ.append_cases (f a) m) (∈-span (suc a) n)
    where
      go : (b ∈ f a) ⊎ (b ∈ span f (suc a) n) → (b ∈ span f (suc a) n → (c : ℕ) × (suc a ≤ c) × (c < suc a + n) × (b ∈ f c))
          → (c : ℕ) × (a ≤ c) × (c < a + suc n) × (b ∈ f c)
      go (inl k) rest = (a, omega arith, omega arith, k)
      go (inr k) rest = let (c, p, q, r) = rest k in (c, omega arith, omega arith, r)

  pub span-∈ : {b : B} (a n c : ℕ) → a ≤ c → c < a + n → b ∈ f c → b ∈ span f a n
  unfolding span
  span-∈ a zero c p q m = absurd (omega arith)
  span-∈ {b} a (suc n) c p q m = go (eq-or-lt_of_le p) (λ k. span-∈ (suc a) n c k (omega arith) m)
    where
      go : (a ≡ c) ⊎ (a < c) → (a < c → b ∈ span f (suc a) n) → b ∈ (f a ++ span f (suc a) n)
      go (inl e) rest = Memᴰ.append_left {s = f a} (span f (suc a) n) (rw e m)
      go (inr k) rest = Memᴰ.append_right (f a) (rest k)

  -- the numbers from a on, below n: one more, and none
  pub span_more : (n a : ℕ) → a < n → span f a (n - a) ≡ f a ++ span f (a + 1) (n - (a + 1))
  unfolding span
  span_more n a h = let left : n - a ≡ suc (n - (a + 1)) = omega arith in rw (left, add-one)

  pub span_none : (n a : ℕ) → n ≤ a → span f a (n - a) ≡ []
  unfolding span
  span_none n a h = let none : n - a ≡ 0 = omega arith in rw none

  -- pieces of one length, and of at most one
  pub span_length : (k : ℕ) → ((a : ℕ) → length (f a) ≡ k) → (a n : ℕ) → length (span f a n) ≡ n * k
  unfolding span
  span_length k each a zero = omega arith
  span_length k each a (suc n) = rw (length-append (f a) (span f (suc a) n)) (omega (arith, each a, span_length k each (suc a) n))

  pub span_short : (k : ℕ) → ((a : ℕ) → length (f a) ≤ k) → (a n : ℕ) → length (span f a n) ≤ n * k
  unfolding span
  span_short k each a zero = omega arith
  span_short k each a (suc n) = rw (length-append (f a) (span f (suc a) n)) (omega (arith, each a, span_short k each (suc a) n))

  -- pieces of nothing
  pub span_empty : ((a : ℕ) → f a ≡ []) → (a n : ℕ) → span f a n ≡ []
  unfolding span
  span_empty each a zero = refl
  span_empty each a (suc n) = ap₂ ◌++◌ (each a) (span_empty each (suc a) n)

-- what two functions agree on
pub span_agree : {B : Type 0} (f g : ℕ → List B) (a n : ℕ) → ((c : ℕ) → a ≤ c → c < a + n → f c ≡ g c) → span f a n ≡ span g a n
unfolding span
span_agree f g a zero same = refl
span_agree f g a (suc n) same = ap₂ ◌++◌ (same a (omega arith) (omega arith)) (span_agree f g (suc a) n (λ c p q. same c (omega arith) (omega arith)))
