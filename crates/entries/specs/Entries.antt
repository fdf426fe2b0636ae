-- What is entered: yes, no or a refusal number, the rounds that count, and the place of its count.
use Rattle.std.specs.Prelude.{ℕ, ◌+◌, Bool, true, cond, ◌&&◌, eqb, leb}
use Rattle.refusal.specs.Number.{over_budget}
use Rattle.entries.specs.declared.Entry.{Entry}
use Rattle.entries.specs.declared.Entry.TheVariants.{Yes, No, Refused}

-- the table of refusals as it stands: from 1 up to here, 7 too
abbrev pub last_number : ℕ
last_number = 11

-- an entry is yes, no or a refusal number; 0 and a number outside the table are none
abbrev pub is_entry : Entry → Bool
is_entry (Yes r) = true
is_entry (No r) = true
is_entry (Refused n r) = leb 1 n && leb n last_number

-- the rounds that count: refusals but BUDGET count as 0, whatever is handed in
abbrev pub rounds_of : Entry → ℕ
rounds_of (Yes r) = r
rounds_of (No r) = r
rounds_of (Refused n r) = cond (eqb n over_budget) r 0

-- how many counts there are, and the place of each: yes, no, then the refusal numbers from 1 up
abbrev pub places : ℕ
places = 2 + last_number

abbrev pub count_place : Entry → ℕ
count_place (Yes r) = 0
count_place (No r) = 1
count_place (Refused n r) = n + 1
