-- Sums over a list and over a range of numbers: a list sums up to its numbers, each as often as it stands there. Assumes nothing.
use Prim.Native.Nat.{ℕ, zero, suc, ◌+◌, ◌*◌, ◌≤◌, ◌<◌}
use mathlib.Core.Bool.{Bool, true, false, cond}
use mathlib.Core.List.Memᴰ
use mathlib.Core.List.{List, [], ◌∷◌, ◌++◌}
use mathlib.Core.Logic.{◌⊎◌, inl, inr}
use mathlib.Core.Path.{◌≡◌, refl, sym, ap}
use native.Mathlib.Nat.{not-suc-le-zero, eq-or-lt_of_le, add-zero, zero-mul, suc-mul}
use native.Mathlib.Omega.{arith}
use lib.Dec.{eqb}
use borrow.Author.Tests.{eq-eqb, ne_eqb, eqb-true}
use Rattle.lists.specs.Lists.{◌∈◌}
use Rattle.syntax.specs.Rows.{times}

-- the sum of w over a list, and over the n numbers from k on
unfoldable pub sum_of : (ℕ → ℕ) → List ℕ → ℕ
sum_of w [] = 0
sum_of w (l ∷ ls) = w l + sum_of w ls

unfoldable pub sum_from : (ℕ → ℕ) → ℕ → ℕ → ℕ
sum_from w k zero = 0
sum_from w k (suc n) = w k + sum_from w (suc k) n

-- ---- lists

pub times_append : (i : ℕ) (xs ys : List ℕ) → times i (xs ++ ys) ≡ times i xs + times i ys
unfolding times
times_append i [] ys = omega arith
times_append i (x ∷ xs) ys = omega (arith, times_append i xs ys)

pub sum_of_append : (w : ℕ → ℕ) (xs ys : List ℕ) → sum_of w (xs ++ ys) ≡ sum_of w xs + sum_of w ys
unfolding sum_of
sum_of_append w [] ys = omega arith
sum_of_append w (x ∷ xs) ys = omega (arith, sum_of_append w xs ys)

-- a number that stands in a list is one of its elements
pub times-∈ : (i : ℕ) (ls : List ℕ) → 0 < times i ls → i ∈ ls
unfolding times
times-∈ i [] h = absurd (not-suc-le-zero h)
times-∈ i (l ∷ ls) h = go (eqb l i) refl h (times-∈ i ls)
  where
    go : (t : Bool) → eqb l i ≡ t → 0 < cond t 1 0 + times i ls → (0 < times i ls → i ∈ ls) → i ∈ (l ∷ ls)
    go true e h rest = Memᴰ.head (sym (eqb-true l i e))
    go false e h rest = Memᴰ.tail (rest (omega arith))

-- ---- ranges

pub sum_from_last : (w : ℕ → ℕ) (k n : ℕ) → sum_from w k (suc n) ≡ sum_from w k n + w (k + n)
unfolding sum_from
sum_from_last w k zero = let e : w k ≡ w (k + 0) = ap w (sym (add-zero k)) in omega arith
sum_from_last w k (suc n) = let rest = sum_from_last w (suc k) n in let e : w (suc k + n) ≡ w (k + suc n) = ap w (omega arith) in omega arith

pub sum_from_same : (v w : ℕ → ℕ) (k n : ℕ) → ((i : ℕ) → k ≤ i → i < k + n → v i ≡ w i) → sum_from v k n ≡ sum_from w k n
unfolding sum_from
sum_from_same v w k zero f = refl
sum_from_same v w k (suc n) f = let rest = sum_from_same v w (suc k) n (λ i p q. f i (omega arith) (omega arith)) in omega (arith, f k (omega arith) (omega arith))

-- ---- a list over a range that has its numbers

abbrev weighed : (ℕ → ℕ) → List ℕ → ℕ → ℕ
weighed w ls j = times j ls * w j

times_other : (j l : ℕ) (ls : List ℕ) → (l ≡ j → ⊥) → times j (l ∷ ls) ≡ times j ls
unfolding times
times_other j l ls n = rw (ne_eqb l j n) (omega arith)

times_same : (j : ℕ) (ls : List ℕ) → times j (j ∷ ls) ≡ suc (times j ls)
unfolding times
times_same j ls = rw (eq-eqb j j refl) (omega arith)

-- no number in the list
none_weighed : (w : ℕ → ℕ) (k n : ℕ) → sum_from (weighed w []) k n ≡ 0
unfolding sum_from times
none_weighed w k zero = refl
none_weighed w k (suc n) = omega (arith, zero-mul (w k), none_weighed w (suc k) n)

-- one number more in the list
one_more : (w : ℕ → ℕ) (l : ℕ) (ls : List ℕ) (k n : ℕ) → k ≤ l → l < k + n → sum_from (weighed w (l ∷ ls)) k n ≡ w l + sum_from (weighed w ls) k n
unfolding sum_from
one_more w l ls k zero p q = absurd (omega arith)
one_more w l ls k (suc n) p q = go (eq-or-lt_of_le p) (one_more w l ls (suc k) n)
  where
    go : (k ≡ l) ⊎ (k < l) → (suc k ≤ l → l < suc k + n → sum_from (weighed w (l ∷ ls)) (suc k) n ≡ w l + sum_from (weighed w ls) (suc k) n)
        → sum_from (weighed w (l ∷ ls)) k (suc n) ≡ w l + sum_from (weighed w ls) k (suc n)
    go (inl e) rest =
        let top : times k (l ∷ ls) * w k ≡ w l + times k ls * w k = rw (← e, times_same, suc-mul) (omega arith) in
        let others = sum_from_same (weighed w (l ∷ ls)) (weighed w ls) (suc k) n (λ i p q. ap (λ (t : ℕ). t * w i) (times_other i l ls (λ h. omega arith))) in
        omega arith
    go (inr h) rest =
        let top : times k (l ∷ ls) * w k ≡ times k ls * w k = ap (λ (t : ℕ). t * w k) (times_other k l ls (λ e. omega arith)) in
        let others = rest h (omega arith) in
        omega arith

-- a list sums up to the numbers of a range that has them all, each as often as it stands there
pub sum_of_range : (w : ℕ → ℕ) (ls : List ℕ) (n : ℕ) → ((l : ℕ) → l ∈ ls → l < n) → sum_of w ls ≡ sum_from (weighed w ls) 0 n
unfolding sum_of
sum_of_range w [] n f = sym (none_weighed w 0 n)
sum_of_range w (l ∷ ls) n f = omega (arith, sum_of_range w ls n (λ m e. f m (Memᴰ.tail e)), one_more w l ls 0 n (omega arith) (omega (arith, f l (Memᴰ.head refl))))
