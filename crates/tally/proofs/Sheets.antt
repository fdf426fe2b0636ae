-- The sheet of a history of accepted entries: what one entry more does to it, its counts together, and how large its sum can be.
-- Assumes nothing.
use Prim.Native.Nat.{ℕ, ◌+◌, ◌*◌, ◌^◌, ◌<◌, ◌≤◌, max}
use mathlib.Core.List.Memᴰ
use mathlib.Core.List.{List, [], ◌∷◌, ◌++◌}
use mathlib.Core.Bool.{true, false}
use mathlib.Core.Path.{◌≡◌, refl, sym, ap, ◌∙◌}
use native.Mathlib.Omega.{arith}
use lib.Dec.{eqb, leb}
use lib.ListN.{length, get_or, set}
use borrow.Author.Tests.{eq-eqb, ne_eqb, leb-true, leb-false}
use Rattle.lists.specs.Lists.{◌∈◌}
use Rattle.lists.specs.Making.{keep, span}
use Rattle.lists.proofs.Kept.{keep_pass, keep_fail}
use Rattle.lists.proofs.Places.{first}
use Rattle.lists.proofs.Tests.{by_test}
use Rattle.refusal.specs.Number.{over_budget}
use Rattle.entries.specs.declared.Entry.{Entry}
use Rattle.entries.specs.declared.Entry.TheVariants.{Yes, No, Refused}
use Rattle.entries.specs.Entries.{is_entry, rounds_of, places, count_place}
use Rattle.tally.specs.Tally.{at_zero, together, counted_at}
use Rattle.tally.specs.History.{count_at, sum_rounds, largest_rounds, sheet_of, handed_in}
use Rattle.tally.proofs.Spelled.{spread, spread_more, spread_length}
use Rattle.tally.proofs.Counting.{count_more}
use Rattle.tally.proofs.Answers.{has_place}

-- what accepted entries are: of the table, with rounds of 4 bytes
abbrev pub Fine : List Entry → Type 0
Fine [] = Unit
Fine (e ∷ h) = (is_entry e ≡ true) × (handed_in e < 2 ^ 32) × Fine h

pub fine_last : (h : List Entry) (e : Entry) → Fine h → is_entry e ≡ true → handed_in e < 2 ^ 32 → Fine (h ++ (e ∷ []))
fine_last [] e f n s = (n, s, tt)
fine_last (a ∷ h) e f n s = (f.0, f.1, fine_last h e f.2 n s)

-- ---- how many have a place

module _ (e : Entry) (place : ℕ) where
  count_same : (h : List Entry) → eqb (count_place e) place ≡ true → count_at (e ∷ h) place ≡ count_at h place + 1
  unfolding count_at
  count_same h p = rw (keep_pass (λ a. eqb (count_place a) place) e h p) (omega arith)

  count_other : (h : List Entry) → eqb (count_place e) place ≡ false → count_at (e ∷ h) place ≡ count_at h place
  unfolding count_at
  count_other h p = rw (keep_fail (λ a. eqb (count_place a) place) e h p)

-- the order makes no difference
count_last : (h : List Entry) (e : Entry) (place : ℕ) → count_at (h ++ (e ∷ [])) place ≡ count_at (e ∷ h) place
count_last [] e place = refl
count_last (a ∷ h) e place =
    by_test (eqb (count_place a) place)
    (λ p.
    by_test (eqb (count_place e) place)
    (λ q. omega (arith, count_same a place (h ++ (e ∷ [])) p, count_last h e place, count_same e place h q, count_same e place (a ∷ h) q, count_same a place h p))
    (λ q. omega (arith, count_same a place (h ++ (e ∷ [])) p, count_last h e place, count_other e place h q, count_other e place (a ∷ h) q, count_same a place h p)))
    (λ p.
    by_test (eqb (count_place e) place)
    (λ q. omega (arith, count_other a place (h ++ (e ∷ [])) p, count_last h e place, count_same e place h q, count_same e place (a ∷ h) q, count_other a place h p))
    (λ q. omega (arith, count_other a place (h ++ (e ∷ [])) p, count_last h e place, count_other e place h q, count_other e place (a ∷ h) q, count_other a place h p)))

-- ---- the counts of a history with one entry more

abbrev counts_of : List Entry → List ℕ
counts_of h = spread (count_at h) 0 places

bumped : (g : ℕ → ℕ) (h : List Entry) (e : Entry) → ((place : ℕ) → g place ≡ count_at (e ∷ h) place) → count_place e < places
    → spread g 0 places ≡ set (counts_of h) (count_place e) (get_or (counts_of h) (count_place e) 0 + 1)
bumped g h e same p =
    spread_more (count_at h) g (count_place e)
    (same (count_place e) ∙ count_same e (count_place e) h (eq-eqb (count_place e) (count_place e) refl))
    (λ k other. same k ∙ count_other e k h (ne_eqb (count_place e) k (λ w. other (sym w))))
    0 places (count_place e) p (omega arith)

-- all of the counts together are the history
pub counts_together : (h : List Entry) → Fine h → together (counts_of h) ≡ length h
unfolding count_at together span keep
counts_together [] f = refl
counts_together (e ∷ h) f =
    let p = has_place e f.0 in
    ap together (bumped (count_at (e ∷ h)) h e (λ place. refl) p)
    ∙ count_more (counts_of h) (count_place e) (omega (arith, spread_length (count_at h) 0 places))
    ∙ omega (arith, counts_together h f.2)

-- ---- the sum and the largest

sum_last : (h : List Entry) (e : Entry) → sum_rounds (h ++ (e ∷ [])) ≡ sum_rounds h + rounds_of e
unfolding sum_rounds
sum_last [] e = omega arith
sum_last (a ∷ h) e = omega (arith, sum_last h e)

largest_last : (h : List Entry) (e : Entry) → largest_rounds (h ++ (e ∷ [])) ≡ max (largest_rounds h) (rounds_of e)
unfolding largest_rounds
largest_last [] e = omega arith
largest_last (a ∷ h) e = omega (arith, largest_last h e)

pub rounds_small : (e : Entry) → rounds_of e ≤ handed_in e
rounds_small (Yes r) = omega arith
rounds_small (No r) = omega arith
rounds_small (Refused n r) = by_test (eqb n over_budget) (λ p. rw p (omega arith)) (λ p. rw p (omega arith))

-- the largest is the largest: none has more, and one has as many, where there is any
pub largest_above : (h : List Entry) {e : Entry} → e ∈ h → rounds_of e ≤ largest_rounds h
unfolding largest_rounds
largest_above [] {e = e} x' = elim x' [ ]
largest_above (a ∷ h) (Memᴰ.head p) = omega (arith, ap rounds_of p)
largest_above (a ∷ h) (Memᴰ.tail m) = omega (arith, largest_above h m)

pub largest_one : (a : Entry) (h : List Entry) → (e : Entry) × (e ∈ (a ∷ h)) × (rounds_of e ≡ largest_rounds (a ∷ h))
unfolding largest_rounds
largest_one a [] = (a, first, omega arith)
largest_one a (b ∷ h) =
    let later = largest_one b h in
    by_test (leb (largest_rounds (b ∷ h)) (rounds_of a))
    (λ p. (a, first, omega (arith, leb-true (largest_rounds (b ∷ h)) (rounds_of a) p)))
    (λ p. (later.0, Memᴰ.tail later.1, omega (arith, later.2, leb-false (largest_rounds (b ∷ h)) (rounds_of a) p)))

-- at most the largest number of 4 bytes for each entry
pub sum_small : (h : List Entry) → Fine h → sum_rounds h ≤ 4294967295 * length h
unfolding sum_rounds
sum_small [] f = omega arith
sum_small (e ∷ h) f = omega (arith, rounds_small e, f.1, sum_small h f.2)

-- ---- the sheet

-- the sheet of nothing is where a tally starts
pub sheet_none : at_zero ≡ sheet_of []
unfolding at_zero sheet_of count_at sum_rounds largest_rounds span keep
sheet_none = refl

-- one entry more
pub sheet_last : (h : List Entry) (e : Entry) → is_entry e ≡ true → sheet_of (h ++ (e ∷ [])) ≡ counted_at (sheet_of h) (count_place e) (rounds_of e)
unfolding sheet_of counted_at
sheet_last h e n = λ i. record {
  counts = bumped (count_at (h ++ (e ∷ []))) h e (count_last h e) (has_place e n) i;
  sum = sum_last h e i;
  largest = largest_last h e i;
}
