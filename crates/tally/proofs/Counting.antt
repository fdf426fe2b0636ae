-- The counts together, and what one more entry does to them. Assumes nothing.
use Prim.Native.Nat.{ℕ, zero, suc, ◌+◌, ◌<◌, ◌≤◌, max}
use mathlib.Core.List.{List, [], ◌∷◌}
use mathlib.Core.Path.{◌≡◌}
use native.Mathlib.Numerals.{add-one}
use native.Mathlib.Omega.{arith}
use lib.ListN.{length, get_or, set, drop}
use lib.Seq.{drop-cons}
use Rattle.tally.specs.declared.Tally.{Tally}
use Rattle.tally.specs.Tally.{together, counted_at}

-- the count at a place, and those behind it
pub together_drop : (l : List ℕ) (i : ℕ) → i < length l → together (drop i l) ≡ get_or l i 0 + together (drop (i + 1) l)
unfolding together
together_drop l i h = rw (add-one, drop-cons l i 0)

-- a count is at most all of them together
pub one_of : (l : List ℕ) (i : ℕ) → i < length l → get_or l i 0 ≤ together l
unfolding together
one_of [] i h = absurd (omega arith)
one_of (n ∷ l) zero h = omega arith
one_of (n ∷ l) (suc i) h = omega (arith, one_of l i (omega arith))

-- one more of one of them is one more of all
pub count_more : (l : List ℕ) (i : ℕ) → i < length l → together (set l i (get_or l i 0 + 1)) ≡ together l + 1
unfolding together
count_more [] i h = absurd (omega arith)
count_more (n ∷ l) zero h = omega arith
count_more (n ∷ l) (suc i) h = omega (arith, count_more l i (omega arith))

-- a tally with one more at a place, whichever way the largest was found
pub counted_is : (t : Tally) (at rounds m : ℕ) → m ≡ max t.largest rounds
    → record { counts = set t.counts at (get_or t.counts at 0 + 1); sum = t.sum + rounds; largest = m } ≡ counted_at t at rounds
unfolding counted_at
counted_is t at rounds m e = λ i. record { counts = set t.counts at (get_or t.counts at 0 + 1); sum = t.sum + rounds; largest = e i }
