-- A tally that began at zero: after any sequence of entries it is the sheet of those that were accepted. Assumes nothing.
use Rattle.std.specs.Prelude.{Ok, Err}
use Rattle.refusal.specs.Number.{unplaced}
use Prim.Native.Nat.{ℕ, zero, suc, ◌+◌, ◌*◌, ◌-◌, ◌^◌, ◌<◌, ◌≤◌}
use mathlib.Core.List.{List, [], ◌∷◌, ◌++◌, append_assoc, append-nil}
use mathlib.Core.Bool.{true, false, cond}
use mathlib.Core.Path.{◌≡◌, refl, sym, ap, ◌∙◌}
use native.Mathlib.Omega.{arith}
use lib.Dec.{ltb}
use lib.ListN.{length, get_or, take, length-append}
use borrow.Author.Tests.{lt-ltb, le-ltb, ltb-true, ltb-false}
use Rattle.lists.specs.Making.{keep}
use Rattle.lists.proofs.Kept.{keep_pass, keep_fail}
use Rattle.lists.proofs.Tests.{by_test, clash}
use Rattle.refusal.specs.declared.Refusal.{Refusal}
use Rattle.refusal.specs.declared.Refusal.TheVariants.{Name, Limit}
use Rattle.entries.specs.declared.Entry.{Entry}
use Rattle.tally.specs.declared.Tally.{Tally}
use Rattle.tally.specs.declared.Entered.{Entered}
use Rattle.entries.specs.Entries.{is_entry, rounds_of, places}
use Rattle.tally.specs.Tally.{most_accepted, at_zero, together, takes_more}
use Rattle.tally.specs.Entered.{turned_away, enter_of}
use Rattle.tally.specs.History.{tally_after, is_accepted, accepted_from, first_entries, count_at, sum_rounds, largest_rounds, sheet_of, handed_in, FourBytes}
use Rattle.tally.proofs.Spelled.{spread_at}
use Rattle.tally.proofs.Answers.{takes_none, takes_sum, no_entry, at_end, entry_counted}
use Rattle.tally.proofs.Sheets.{Fine, fine_last, counts_together, rounds_small, sum_small, sheet_none, sheet_last}

-- ---- a sheet has room exactly while fewer than the most are on it

module _ (h : List Entry) (f : Fine h) where
  sheet_together : together (sheet_of h).counts ≡ length h
  unfolding sheet_of
  sheet_together = counts_together h f

  -- 64 bits hold the sum of the most entries, and one more
  sheet_sum : length h ≤ most_accepted → (sheet_of h).sum ≤ 18446744065119617025
  unfolding sheet_of
  sheet_sum room = omega (arith, sum_small h f)

  takes_more_lem : (rounds : ℕ) → rounds < 2 ^ 32 → length h < most_accepted → takes_more (sheet_of h) rounds ≡ true
  takes_more_lem rounds small room =
      takes_sum (sheet_of h) rounds (lt-ltb (together (sheet_of h).counts) most_accepted (omega (arith, sheet_together)))
      ∙ lt-ltb ((sheet_of h).sum + rounds) (2 ^ 64) (omega (arith, sheet_sum (omega arith)))

  takes_no_more : (rounds : ℕ) → most_accepted ≤ length h → takes_more (sheet_of h) rounds ≡ false
  takes_no_more rounds full = takes_none (sheet_of h) rounds (le-ltb (together (sheet_of h).counts) most_accepted (omega (arith, sheet_together)))

-- ---- from a sheet on

-- what the entries lead to, and which of them were accepted
abbrev Led : Tally → List Entry → List Entry → List Entry → Type 0
Led t h before some = (tally_after t h ≡ sheet_of (before ++ some)) × (accepted_from t h ≡ some)

-- an entry that is turned away
led_away : (t : Tally) (e : Entry) (h before some : List Entry) (r : Refusal) → enter_of t e ≡ turned_away t r → Led t h before some → Led t (e ∷ h) before some
unfolding tally_after accepted_from
led_away t e h before some r same led = (
  ap (λ (s : Entered). tally_after s.tally h) same ∙ led.0,
  ap (λ (s : Entered). cond (is_accepted s.answer) (e ∷ accepted_from s.tally h) (accepted_from s.tally h)) same ∙ led.1,
)

-- an entry that is accepted
led_on : (t t' : Tally) (e : Entry) (h before some : List Entry) → enter_of t e ≡ record { tally = t'; answer = Ok tt } → Led t' h (before ++ (e ∷ [])) some
    → Led t (e ∷ h) before (e ∷ some)
unfolding tally_after accepted_from
led_on t t' e h before some same led = (
  ap (λ (s : Entered). tally_after s.tally h) same ∙ led.0 ∙ ap sheet_of (append_assoc before (e ∷ []) some),
  ap (λ (s : Entered). cond (is_accepted s.answer) (e ∷ accepted_from s.tally h) (accepted_from s.tally h)) same ∙ ap (λ (l : List Entry). e ∷ l) led.1,
)

-- ---- those that the table has, as many as there is room for

rest : List Entry → List Entry → List Entry
rest before h = take (most_accepted - length before) (keep is_entry h)

take_empty : (n : ℕ) → ◌≡◌ {A = List Entry} (take n []) []
take_empty zero = refl
take_empty (suc n) = refl

take_no : (n : ℕ) (l : List Entry) → n ≡ 0 → take n l ≡ []
take_no zero l h = refl
take_no (suc n) l h = absurd (omega arith)

take_one : (m n : ℕ) (e : Entry) (l : List Entry) → n ≡ m + 1 → take n (e ∷ l) ≡ e ∷ take m l
take_one m zero e l h = absurd (omega arith)
take_one m (suc n) e l h = let same : n ≡ m = omega arith in ap (λ (k : ℕ). e ∷ take k l) same

module _ (before : List Entry) where
  rest_none : rest before [] ≡ []
  unfolding rest keep
  rest_none = take_empty (most_accepted - length before)

  rest_full : (h : List Entry) → most_accepted ≤ length before → rest before h ≡ []
  unfolding rest
  rest_full h full = take_no (most_accepted - length before) (keep is_entry h) (omega arith)

  rest_away : (e : Entry) (h : List Entry) → is_entry e ≡ false → rest before (e ∷ h) ≡ rest before h
  unfolding rest
  rest_away e h n = ap (take (most_accepted - length before)) (keep_fail is_entry e h n)

  rest_more : (e : Entry) (h : List Entry) → is_entry e ≡ true → length before < most_accepted → rest before (e ∷ h) ≡ e ∷ rest (before ++ (e ∷ [])) h
  unfolding rest
  rest_more e h n room =
      ap (take (most_accepted - length before)) (keep_pass is_entry e h n)
      ∙ take_one (most_accepted - length (before ++ (e ∷ []))) (most_accepted - length before) e (keep is_entry h) (omega (arith, length-append before (e ∷ [])))

led : (h before : List Entry) → Fine before → length before ≤ most_accepted → FourBytes h → Led (sheet_of before) h before (rest before h)
unfolding FourBytes tally_after accepted_from
led [] before f room small = rw (rest_none before) (ap sheet_of (sym (append-nil before)), refl)
led (e ∷ h) before f room small =
    by_test (is_entry e)
    (λ n.
    by_test (ltb (length before) most_accepted)
    (λ more.
    let below = ltb-true (length before) most_accepted more in
    let here = entry_counted (sheet_of before) e n (takes_more_lem before f (rounds_of e) (omega (arith, rounds_small e, small.0)) below) in
    rw (rest_more before e h n below)
    (led_on (sheet_of before) (sheet_of (before ++ (e ∷ []))) e h before (rest (before ++ (e ∷ [])) h)
    (here ∙ ap (λ (t : Tally). record { tally = t; answer = Ok tt }) (sym (sheet_last before e n)))
    (led h (before ++ (e ∷ [])) (fine_last before e f n small.0) (omega (arith, length-append before (e ∷ []))) small.1)))
    (λ full.
    let none = ltb-false (length before) most_accepted full in
    let away = led_away (sheet_of before) e h before (rest before h) Limit (at_end (sheet_of before) e n (takes_no_more before f (rounds_of e) none)) (led h before f room small.1) in
    rw (rest_full before (e ∷ h) none) (rw (rest_full before h none) at away)))
    (λ n. rw (rest_away before e h n) (led_away (sheet_of before) e h before (rest before h) Name (no_entry (sheet_of before) e n) (led h before f room small.1)))

-- ---- from zero

fine_keep : (h : List Entry) → FourBytes h → Fine (keep is_entry h)
unfolding FourBytes keep
fine_keep [] small = tt
fine_keep (e ∷ h) small =
    by_test (is_entry e)
    (λ n. rw n (n, small.0, fine_keep h small.1))
    (λ n. rw n (fine_keep h small.1))

fine_take : (m : ℕ) (h : List Entry) → Fine h → Fine (take m h)
fine_take zero h f = tt
fine_take (suc m) [] f = tt
fine_take (suc m) (e ∷ h) f = (f.0, f.1, fine_take m h f.2)

take_most : (m : ℕ) (h : List Entry) → length (take m h) ≤ m
take_most zero h = omega arith
take_most (suc m) [] = omega arith
take_most (suc m) (e ∷ h) = omega (arith, take_most m h)

module _ (h : List Entry) (small : FourBytes h) where
  from_zero : Led at_zero h [] (first_entries h)
  unfolding first_entries rest
  from_zero = rw sheet_none (led h [] tt (omega arith) small)

  -- the accepted entries are the first 4,294,967,295 of the table's
  pub accepted_are : accepted_from at_zero h ≡ first_entries h
  accepted_are = from_zero.1

  -- the tally is the sheet of the accepted entries
  pub after_sheet : tally_after at_zero h ≡ sheet_of (accepted_from at_zero h)
  after_sheet = from_zero.0 ∙ ap sheet_of (sym from_zero.1)

  accepted_fine : Fine (accepted_from at_zero h)
  unfolding first_entries
  accepted_fine = rw accepted_are (fine_take most_accepted (keep is_entry h) (fine_keep h small))

  accepted_most : length (accepted_from at_zero h) ≤ most_accepted
  unfolding first_entries
  accepted_most = rw accepted_are (take_most most_accepted (keep is_entry h))

  -- the counts together equal the number accepted
  pub counts_are : together (tally_after at_zero h).counts ≡ length (accepted_from at_zero h)
  counts_are = ap (λ (t : Tally). together t.counts) after_sheet ∙ sheet_together (accepted_from at_zero h) accepted_fine

  -- each count is that of the accepted history, and so are the sum and the largest
  pub each_count : (place : ℕ) → place < places → get_or (tally_after at_zero h).counts place 0 ≡ count_at (accepted_from at_zero h) place
  unfolding sheet_of
  each_count place inside = ap (λ (t : Tally). get_or t.counts place 0) after_sheet ∙ spread_at (count_at (accepted_from at_zero h)) 0 places place inside place (omega arith)

  pub sum_is : (tally_after at_zero h).sum ≡ sum_rounds (accepted_from at_zero h)
  unfolding sheet_of
  sum_is = ap (λ (t : Tally). t.sum) after_sheet

  pub largest_is : (tally_after at_zero h).largest ≡ largest_rounds (accepted_from at_zero h)
  unfolding sheet_of
  largest_is = ap (λ (t : Tally). t.largest) after_sheet

  -- the sum is at most (2 ^ 32 - 1) ^ 2, which 64 bits hold
  pub sum_fits : (tally_after at_zero h).sum ≤ 4294967295 * 4294967295
  sum_fits = omega (arith, ap (λ (t : Tally). t.sum) after_sheet, sheet_sum (accepted_from at_zero h) accepted_fine accepted_most)

  -- so LIMIT is given exactly after 4,294,967,295 accepted
  pub answer_is : (e : Entry) → handed_in e < 2 ^ 32
      → (enter_of (tally_after at_zero h) e).answer
      ≡ cond (is_entry e) (cond (ltb (length (accepted_from at_zero h)) most_accepted) (Ok tt) (Err (unplaced Limit))) (Err (unplaced Name))
  answer_is e fits =
      let seen : List Entry = accepted_from at_zero h in
      by_test (is_entry e)
      (λ n.
      by_test (ltb (length seen) most_accepted)
      (λ more.
      let room = takes_more_lem seen accepted_fine (rounds_of e) (omega (arith, rounds_small e)) (ltb-true (length seen) most_accepted more) in
      rw (after_sheet, entry_counted (sheet_of seen) e n room, n, more))
      (λ full.
      let room = takes_no_more seen accepted_fine (rounds_of e) (ltb-false (length seen) most_accepted full) in
      rw (after_sheet, at_end (sheet_of seen) e n room, n, full)))
      (λ n. rw (no_entry (tally_after at_zero h) e n, n))

-- ---- of any tally

-- a refused entry changes nothing
pub refused_stays : (t : Tally) (e : Entry) → is_accepted (enter_of t e).answer ≡ false → (enter_of t e).tally ≡ t
refused_stays t e away =
    by_test (is_entry e)
    (λ n.
    by_test (takes_more t (rounds_of e))
    (λ room. clash (ap (λ (s : Entered). is_accepted s.answer) (entry_counted t e n room)) away)
    (λ none. ap (λ (s : Entered). s.tally) (at_end t e n none)))
    (λ n. ap (λ (s : Entered). s.tally) (no_entry t e n))
