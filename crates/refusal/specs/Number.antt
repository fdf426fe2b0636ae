-- The numbers given back: 0 is OK, 1 is BUDGET, and each refusal has its own. 7, DEAD, stays in the table and is no longer given.
use Rattle.std.specs.Prelude.{ℕ, Result, Ok, Err}
use Rattle.refusal.specs.declared.Refusal.{Refusal}
use Rattle.refusal.specs.declared.Fault.{Fault}
use Rattle.refusal.specs.declared.Refusal.TheVariants.{Length, Version, Limit, Order, Name, Size, Room, Form, Profile}

-- no other number applies
abbrev pub ok : ℕ
ok = 0

-- BUDGET: the count of rounds is greater than the budget
abbrev pub over_budget : ℕ
over_budget = 1

abbrev pub number_of : Refusal → ℕ
number_of Length = 2
number_of Version = 3
number_of Limit = 4
number_of Order = 5
number_of Name = 6
number_of Size = 8
number_of Room = 9
number_of Form = 10
number_of Profile = 11

-- the offset of OK, of BUDGET, and of every refusal that no field of a message is at fault for
abbrev pub nowhere : ℕ
nowhere = 0

-- a refusal that no field of a message is at fault for
abbrev pub unplaced : Refusal → Fault
unplaced e = record { refusal = e; offset = nowhere }

-- the number of an answer: OK, or that of its refusal
abbrev pub answer_number : {A : Type 0} → Result A Fault → ℕ
answer_number (Ok a) = ok
answer_number (Err e) = number_of e.refusal

-- the offset of an answer: nowhere, or that of its fault
abbrev pub answer_offset : {A : Type 0} → Result A Fault → ℕ
answer_offset (Ok a) = nowhere
answer_offset (Err e) = e.offset
