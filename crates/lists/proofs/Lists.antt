-- Tests over the elements of a list: whether all pass, how many pass; the numbers below a bound; the first number that passes.
-- Assumes nothing.
use mathlib.Core.Path.{◌≡◌, refl, sym, subst}
use mathlib.Core.Bool.{Bool, true, false, ◌&&◌, ◌||◌}
use mathlib.Core.Logic.{◌⊎◌, inl, inr}
use mathlib.Core.List.Memᴰ
use mathlib.Core.List.{List, [], ◌∷◌}
use Prim.Native.Nat.{ℕ, zero, suc, ◌+◌, ◌≤◌, ◌<◌}
use native.Mathlib.Nat.{le_refl, add-zero, not-suc-le-zero, eq-or-lt_of_le, le_of_suc-le-suc}
use native.Mathlib.Omega.{arith}
use lib.ListN.{length}
use Rattle.lists.specs.Lists.{◌∈◌, any, all, up_to, first_from}
use Rattle.lists.proofs.Tests.{by_test, clash, or_right, and_left, and_right}

-- ---- whether some pass, whether all pass

pub any_true : {A : Type 0} (p : A → Bool) (l : List A) → any p l ≡ true → (a : A) × (a ∈ l) × (p a ≡ true)
unfolding any
any_true p [] e = clash e refl
any_true {A} p (b ∷ l) e = go (p b) refl e (any_true p l)
  where
    go : (t : Bool) → p b ≡ t → (t || any p l) ≡ true → (any p l ≡ true → (a : A) × (a ∈ l) × (p a ≡ true))
        → (a : A) × (a ∈ (b ∷ l)) × (p a ≡ true)
    go true q e rest = (b, Memᴰ.head refl, q)
    go false q e rest = let r = rest e in (r.0, Memᴰ.tail r.1, r.2)

pub true_any : {A : Type 0} (p : A → Bool) (l : List A) (a : A) → a ∈ l → p a ≡ true → any p l ≡ true
unfolding any
true_any p [] a m e = absurd (Memᴰ.not-nil m)
true_any p (b ∷ l) a (Memᴰ.head q) e = rw (← q, e)
true_any p (b ∷ l) a (Memᴰ.tail m) e = or_right (p b) (any p l) (true_any p l a m e)

pub all_true : {A : Type 0} (p : A → Bool) (l : List A) → all p l ≡ true → (a : A) → a ∈ l → p a ≡ true
unfolding all
all_true p [] e a m = absurd (Memᴰ.not-nil m)
all_true {A} p (b ∷ l) e a (Memᴰ.head q) = subst (λ (x : A). p x ≡ true) (sym q) (and_left (p b) (all p l) e)
all_true p (b ∷ l) e a (Memᴰ.tail m) = all_true p l (and_right (p b) (all p l) e) a m

pub all_false : {A : Type 0} (p : A → Bool) (l : List A) → all p l ≡ false → (a : A) × (a ∈ l) × (p a ≡ false)
unfolding all
all_false p [] e = clash refl e
all_false {A} p (b ∷ l) e = go (p b) refl e (all_false p l)
  where
    go : (t : Bool) → p b ≡ t → (t && all p l) ≡ false → (all p l ≡ false → (a : A) × (a ∈ l) × (p a ≡ false))
        → (a : A) × (a ∈ (b ∷ l)) × (p a ≡ false)
    go false q e rest = (b, Memᴰ.head refl, q)
    go true q e rest = let r = rest e in (r.0, Memᴰ.tail r.1, r.2)

pub true_all : {A : Type 0} (p : A → Bool) (l : List A) → ((a : A) → a ∈ l → p a ≡ true) → all p l ≡ true
true_all p l f = by_test (all p l) (λ e. e) (λ e. let r = all_false p l e in clash (f r.0 r.1) r.2)

-- ---- how many pass

abbrev bit : Bool → ℕ
bit true = 1
bit false = 0

pub how_many : {A : Type 0} → (A → Bool) → List A → ℕ
how_many p [] = 0
how_many p (a ∷ l) = bit (p a) + how_many p l

bit_le : (a b : Bool) → (a ≡ true → b ≡ true) → bit a ≤ bit b
bit_le true b f = subst (λ (t : Bool). 1 ≤ bit t) (sym (f refl)) (le_refl 1)
bit_le false b f = omega arith

-- at most all
pub how_many_le : {A : Type 0} (p : A → Bool) (l : List A) → how_many p l ≤ length l
unfolding how_many
how_many_le p [] = le_refl 0
how_many_le p (a ∷ l) = let h = how_many_le p l in let k = bit_le (p a) true (λ e. refl) in omega arith

-- where q passes wherever p does, q passes as often
pub how_many_mono : {A : Type 0} (p q : A → Bool) (l : List A) → ((a : A) → a ∈ l → p a ≡ true → q a ≡ true) → how_many p l ≤ how_many q l
unfolding how_many
how_many_mono p q [] f = le_refl 0
how_many_mono p q (a ∷ l) f =
    let h = how_many_mono p q l (λ b m. f b (Memᴰ.tail m)) in let k = bit_le (p a) (q a) (f a (Memᴰ.head refl)) in omega arith

-- and more often where it passes at an element at which p fails
pub how_many_more : {A : Type 0} (p q : A → Bool) (l : List A) → ((a : A) → a ∈ l → p a ≡ true → q a ≡ true)
    → (a : A) → a ∈ l → p a ≡ false → q a ≡ true → how_many p l < how_many q l
unfolding how_many
how_many_more p q [] f a m e t = absurd (Memᴰ.not-nil m)
how_many_more {A} p q (b ∷ l) f a (Memᴰ.head s) e t =
    let h = how_many_mono p q l (λ b m. f b (Memᴰ.tail m)) in
    let x : bit (p b) ≡ 0 = rw (← s, e) in let y : bit (q b) ≡ 1 = rw (← s, t) in omega arith
how_many_more p q (b ∷ l) f a (Memᴰ.tail m) e t =
    let h = how_many_more p q l (λ b m. f b (Memᴰ.tail m)) a m e t in
    let k = bit_le (p b) (q b) (f b (Memᴰ.head refl)) in omega arith

pub how_many_some : {A : Type 0} (p : A → Bool) (l : List A) (a : A) → a ∈ l → p a ≡ true → 0 < how_many p l
how_many_some p l a m t = let h = how_many_more (λ a. false) p l (λ a m e. clash e refl) a m refl t in omega arith

-- ---- the numbers below n

pub up_to_length : (n : ℕ) → length (up_to n) ≡ n
unfolding up_to
up_to_length zero = refl
up_to_length (suc n) = let h = up_to_length n in omega arith

pub ∈-up_to : (n : ℕ) {v : ℕ} → v ∈ up_to n → v < n
unfolding up_to
∈-up_to zero m = absurd (Memᴰ.not-nil m)
∈-up_to (suc n) (Memᴰ.head e) = omega arith
∈-up_to (suc n) (Memᴰ.tail m) = let h = ∈-up_to n m in omega arith

pub up_to-∈ : (n : ℕ) {v : ℕ} → v < n → v ∈ up_to n
unfolding up_to
up_to-∈ zero h = absurd (not-suc-le-zero h)
up_to-∈ (suc n) {v} h = go (eq-or-lt_of_le (le_of_suc-le-suc h)) (up_to-∈ n)
  where
    go : (v ≡ n) ⊎ (v < n) → (v < n → v ∈ up_to n) → v ∈ up_to (suc n)
    go (inl e) rest = Memᴰ.head e
    go (inr k) rest = Memᴰ.tail (rest k)

-- ---- the first number that passes

pub first_from_le : (p : ℕ → Bool) (left i : ℕ) → first_from p left i ≤ i + left
unfolding first_from
first_from_le p zero i = omega arith
first_from_le p (suc left) i = go (p i) (first_from_le p left (suc i))
  where
    go : (t : Bool) → first_from p left (suc i) ≤ suc i + left → (elim t as (λ _. ℕ) [ true ↦ i | false ↦ first_from p left (suc i) ]) ≤ i + suc left
    go true h = omega arith
    go false h = omega arith

-- every number before it fails
pub first_from_before : (p : ℕ → Bool) (left i j : ℕ) → i ≤ j → j < first_from p left i → p j ≡ false
unfolding first_from
first_from_before p zero i j h k = absurd (omega arith)
first_from_before p (suc left) i j h k = go (p i) refl k (first_from_before p left (suc i) j)
  where
    go : (t : Bool) → p i ≡ t → j < (elim t as (λ _. ℕ) [ true ↦ i | false ↦ first_from p left (suc i) ])
        → (suc i ≤ j → j < first_from p left (suc i) → p j ≡ false) → p j ≡ false
    go true e k rest = absurd (omega arith)
    go false e k rest = at (eq-or-lt_of_le h)
      where
        at : (i ≡ j) ⊎ (i < j) → p j ≡ false
        at (inl q) = rw q at e
        at (inr l) = rest l k

-- where the number after those looked at passes, the one found passes
pub first_from_passes : (p : ℕ → Bool) (left i : ℕ) → p (i + left) ≡ true → p (first_from p left i) ≡ true
unfolding first_from
first_from_passes p zero i e = rw add-zero at e
first_from_passes p (suc left) i e = go (p i) refl (first_from_passes p left (suc i) (subst (λ (m : ℕ). p m ≡ true) (omega arith) e))
  where
    go : (t : Bool) → p i ≡ t → p (first_from p left (suc i)) ≡ true → p (elim t as (λ _. ℕ) [ true ↦ i | false ↦ first_from p left (suc i) ]) ≡ true
    go true q h = q
    go false q h = h
