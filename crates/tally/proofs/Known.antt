-- Known sheets: a small history entry by entry, its report, and a tally at its end. Assumes nothing.
use Prim.Native.Nat.{ℕ}
use mathlib.Core.List.{List, [], ◌∷◌, ◌++◌}
use mathlib.Core.Path.{◌≡◌, refl}
use lib.ListN.{length}
use Rattle.decimals.specs.Decimal.{word, decimal_in}
use Rattle.entries.specs.declared.Entry.{Entry}
use Rattle.entries.specs.declared.Entry.TheVariants.{Yes, No, Refused}
use Rattle.tally.specs.declared.Tally.{Tally}
use Rattle.tally.specs.Tally.{at_zero, together, counted_at, takes_more}
use Rattle.refusal.specs.Number.{answer_number}
use Rattle.tally.specs.Entered.{enter_of}
use Rattle.tally.specs.History.{tally_after, accepted_from}
use Rattle.lines.specs.Lines.{lines}
use Rattle.tally.specs.Report.{numbers_of}

-- yes and no, BUDGET with the most rounds, DEAD with rounds that don't count, 0 and 12, which are none, and PROFILE
abbrev night : List Entry
night = Yes 4 ∷ No 9 ∷ Refused 1 4294967295 ∷ Refused 7 100 ∷ Refused 0 1 ∷ Refused 12 1 ∷ Refused 11 3 ∷ Yes 0 ∷ []

pub night_sheet : numbers_of (tally_after at_zero night) ≡ 2 ∷ 1 ∷ 1 ∷ 0 ∷ 0 ∷ 0 ∷ 0 ∷ 0 ∷ 1 ∷ 0 ∷ 0 ∷ 0 ∷ 1 ∷ 4294967308 ∷ 4294967295 ∷ []
unfolding tally_after enter_of at_zero takes_more together counted_at
night_sheet = refl

pub night_accepted : length (accepted_from at_zero night) ≡ 6
unfolding accepted_from enter_of at_zero takes_more together counted_at
night_accepted = refl

-- the 10 after a number is the line feed
pub some_lines : lines (12 ∷ 0 ∷ 4294967308 ∷ []) ≡ word "12" ++ (10 ∷ word "0") ++ (10 ∷ word "4294967308") ++ (10 ∷ [])
unfolding lines decimal_in
some_lines = refl

-- one short of the most: one entry more is accepted, and then LIMIT, but NAME comes first; a sum at its end is LIMIT too
abbrev last : Tally
last = record { counts = 4294967294 ∷ 0 ∷ 0 ∷ 0 ∷ 0 ∷ 0 ∷ 0 ∷ 0 ∷ 0 ∷ 0 ∷ 0 ∷ 0 ∷ 0 ∷ []; sum = 18446744073709551614; largest = 5 }

abbrev answers : Tally → List Entry → List ℕ
answers t [] = []
answers t (e ∷ h) = answer_number (enter_of t e).answer ∷ answers (enter_of t e).tally h

pub last_answers : answers last (Yes 2 ∷ Yes 1 ∷ Refused 5 0 ∷ Refused 0 0 ∷ []) ≡ 4 ∷ 0 ∷ 4 ∷ 6 ∷ []
unfolding enter_of takes_more together counted_at
last_answers = refl
