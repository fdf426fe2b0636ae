-- What entering answers, case by case, and what the code has to know for it. Assumes nothing.
use Rattle.std.specs.Prelude.{Ok}
use Prim.Native.Nat.{ℕ, ◌+◌, ◌-◌, ◌^◌, ◌<◌}
use mathlib.Core.Bool.{true, false}
use mathlib.Core.Path.{◌≡◌, sym, ◌∙◌}
use native.Mathlib.Omega.{arith}
use lib.Dec.{ltb, leb}
use borrow.Author.Tests.{le-leb, lt-leb, ltb-true, ltb-false, leb-true}
use Rattle.lists.proofs.Tests.{by_test, and_left, and_right}
use Rattle.refusal.specs.declared.Refusal.TheVariants.{Name, Limit}
use Rattle.entries.specs.declared.Entry.{Entry}
use Rattle.entries.specs.declared.Entry.TheVariants.{Yes, No, Refused}
use Rattle.tally.specs.declared.Tally.{Tally}
use Rattle.entries.specs.Entries.{is_entry, rounds_of, places, count_place}
use Rattle.tally.specs.Tally.{most_accepted, together, counted_at, takes_more}
use Rattle.tally.specs.Entered.{turned_away, enter_of}

-- an entry of the table has a place
pub has_place : (e : Entry) → is_entry e ≡ true → count_place e < places
has_place (Yes r) h = omega arith
has_place (No r) h = omega arith
has_place (Refused n r) h = omega (arith, leb-true n 11 (and_right (leb 1 n) (leb n 11) h))

-- ---- where there is room for one more

-- the sum's test, as it is made without passing 64 bits
pub sum_test : (sum rounds : ℕ) → sum < 2 ^ 64 → leb rounds (18446744073709551615 - sum) ≡ ltb (sum + rounds) (2 ^ 64)
sum_test sum rounds h =
    by_test (ltb (sum + rounds) (2 ^ 64))
    (λ e. le-leb rounds (18446744073709551615 - sum) (omega (arith, ltb-true (sum + rounds) (2 ^ 64) e)) ∙ sym e)
    (λ e. lt-leb rounds (18446744073709551615 - sum) (omega (arith, ltb-false (sum + rounds) (2 ^ 64) e)) ∙ sym e)

pub takes_none : (t : Tally) (rounds : ℕ) → ltb (together t.counts) most_accepted ≡ false → takes_more t rounds ≡ false
unfolding takes_more
takes_none t rounds e = rw e

pub takes_sum : (t : Tally) (rounds : ℕ) → ltb (together t.counts) most_accepted ≡ true → takes_more t rounds ≡ ltb (t.sum + rounds) (2 ^ 64)
unfolding takes_more
takes_sum t rounds e = rw e

-- what room says
pub takes_counts : (t : Tally) (rounds : ℕ) → takes_more t rounds ≡ true → together t.counts < most_accepted
unfolding takes_more
takes_counts t rounds e = ltb-true _ _ (and_left (ltb (together t.counts) most_accepted) (ltb (t.sum + rounds) (2 ^ 64)) e)

pub takes_fits : (t : Tally) (rounds : ℕ) → takes_more t rounds ≡ true → t.sum + rounds < 2 ^ 64
unfolding takes_more
takes_fits t rounds e = ltb-true _ _ (and_right (ltb (together t.counts) most_accepted) (ltb (t.sum + rounds) (2 ^ 64)) e)

-- ---- the three answers

module _ (t : Tally) (e : Entry) where
  pub no_entry : is_entry e ≡ false → enter_of t e ≡ turned_away t Name
  unfolding enter_of
  no_entry h = rw h

  pub at_end : is_entry e ≡ true → takes_more t (rounds_of e) ≡ false → enter_of t e ≡ turned_away t Limit
  unfolding enter_of
  at_end h k = rw (h, k)

  pub entry_counted : is_entry e ≡ true → takes_more t (rounds_of e) ≡ true → enter_of t e ≡ record { tally = counted_at t (count_place e) (rounds_of e); answer = Ok tt }
  unfolding enter_of
  entry_counted h k = rw (h, k)
