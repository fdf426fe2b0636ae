-- Elements of a list by their places. Assumes nothing.
use mathlib.Core.Path.{◌≡◌, refl}
use mathlib.Core.Option.{some}
use mathlib.Core.List.Memᴰ
use mathlib.Core.List.{List, [], ◌∷◌}
use Prim.Native.Nat.{ℕ, zero, suc, ◌<◌}
use native.Mathlib.Nat.{not-suc-le-zero}
use native.Mathlib.Omega.{arith}
use lib.ListN.{length, get_or, get_elem?}
use Rattle.lists.specs.Lists.{◌∈◌}

module _ {A : Type 0} where
  -- the first element and the second stand in their list
  pub first : {a : A} {l : List A} → a ∈ (a ∷ l)
  first = Memᴰ.head refl

  pub second : {a b : A} {l : List A} → b ∈ (a ∷ b ∷ l)
  second = Memᴰ.tail first

  -- an element stands before the end, and before the end stands an element
  pub place_lt : (l : List A) (i : ℕ) {a : A} → get_elem? l i ≡ some a → i < length l
  place_lt [] i q = let z : ◌≡◌ {A = ℕ} 0 1 = cc in absurd (omega arith)
  place_lt (c ∷ l) zero q = omega arith
  place_lt (c ∷ l) (suc i) q = let h = place_lt l i q in omega arith

  pub element : (l : List A) (i : ℕ) → i < length l → (a : A) × (get_elem? l i ≡ some a)
  element [] i h = absurd (not-suc-le-zero h)
  element (c ∷ l) zero h = (c, refl)
  element (c ∷ l) (suc i) h = element l i (omega arith)

  -- what stands at a place is found there, whatever a missing one would give
  pub place_get_d : (l : List A) (i : ℕ) (d : A) {a : A} → get_elem? l i ≡ some a → get_or l i d ≡ a
  place_get_d [] i d q = let z : ◌≡◌ {A = ℕ} 0 1 = cc in absurd (omega arith)
  place_get_d (c ∷ l) zero d q = cc
  place_get_d (c ∷ l) (suc i) d q = place_get_d l i d q

  -- what stands at a place is an element, and an element stands at a place
  pub place-∈ : (l : List A) (i : ℕ) {a : A} → get_elem? l i ≡ some a → a ∈ l
  place-∈ [] i q = let z : ◌≡◌ {A = ℕ} 0 1 = cc in absurd (omega arith)
  place-∈ (c ∷ l) zero {a} q = let e : a ≡ c = cc in Memᴰ.head e
  place-∈ (c ∷ l) (suc i) q = Memᴰ.tail (place-∈ l i q)

  pub ∈-place : {a : A} {l : List A} → a ∈ l → (i : ℕ) × (get_elem? l i ≡ some a)
  ∈-place (Memᴰ.head e) = (0, rw e)
  ∈-place (Memᴰ.tail m) = let r = ∈-place m in (suc r.0, r.1)
