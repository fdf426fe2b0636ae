-- A history of entries: what a tally is after it, which of them were accepted, and the sheet of those.
use Rattle.std.specs.Prelude.{ℕ, ◌+◌, ◌^◌, ◌<◌, max, List, [], ◌∷◌, Bool, cond, eqb, is_ok, length, take, Result}
use Rattle.lists.specs.Making.{keep, span}
use Rattle.refusal.specs.declared.Fault.{Fault}
use Rattle.entries.specs.declared.Entry.{Entry}
use Rattle.entries.specs.declared.Entry.TheVariants.{Yes, No, Refused}
use Rattle.tally.specs.declared.Tally.{Tally}
use Rattle.entries.specs.Entries.{is_entry, rounds_of, places, count_place}
use Rattle.tally.specs.Tally.{most_accepted}
use Rattle.tally.specs.Entered.{enter_of}

-- the tally after a sequence of entries
unfoldable pub tally_after : Tally → List Entry → Tally
tally_after t [] = t
tally_after t (e ∷ h) = tally_after (enter_of t e).tally h

-- the entries that were accepted on the way
abbrev pub is_accepted : Result Unit Fault → Bool
is_accepted = is_ok

unfoldable pub accepted_from : Tally → List Entry → List Entry
accepted_from t [] = []
accepted_from t (e ∷ h) = cond (is_accepted (enter_of t e).answer) (e ∷ accepted_from (enter_of t e).tally h) (accepted_from (enter_of t e).tally h)

-- the same from zero, without a tally: those that the table has, the first 4,294,967,295 of them
unfoldable pub first_entries : List Entry → List Entry
first_entries h = take most_accepted (keep is_entry h)

-- how many of a history have a place, the sum of its rounds, and the largest
unfoldable pub count_at : List Entry → ℕ → ℕ
count_at h place = length (keep (λ e. eqb (count_place e) place) h)

unfoldable pub sum_rounds : List Entry → ℕ
sum_rounds [] = 0
sum_rounds (e ∷ h) = rounds_of e + sum_rounds h

unfoldable pub largest_rounds : List Entry → ℕ
largest_rounds [] = 0
largest_rounds (e ∷ h) = max (rounds_of e) (largest_rounds h)

-- the sheet of a history of accepted entries
unfoldable pub sheet_of : List Entry → Tally
sheet_of h = record { counts = span (λ place. count_at h place ∷ []) 0 places; sum = sum_rounds h; largest = largest_rounds h }

-- what is handed in: rounds of 4 bytes
abbrev pub handed_in : Entry → ℕ
handed_in (Yes r) = r
handed_in (No r) = r
handed_in (Refused n r) = r

unfoldable pub FourBytes : List Entry → Type 0
FourBytes [] = Unit
FourBytes (e ∷ h) = (handed_in e < 2 ^ 32) × FourBytes h
