-- What the library gives back of an entry of the nightly sheet.
use Rattle.std.specs.Prelude.{ℕ, ◌≡◌}
use Rattle.refusal.specs.Number.{answer_number}
use Rattle.tally.specs.Entered.{enter_of}
use Rattle.entries.specs.declared.Entry.{Entry}
use Rattle.tally.specs.declared.Tally.{Tally}
use Rattle.tally.specs.declared.Entered.{Entered}
use Rattle.export.specs.declared.Noted.{Noted}

-- the tally after an entry, and the number of the answer
abbrev pub noted_of : Entered → Noted
noted_of e = record { tally = e.tally; number = answer_number e.answer }

-- what entering into a tally that is lent returns, and what it leaves there
pub record EnteredInto (came : Tally) (e : Entry) (number : ℕ) (left : Tally) : Type 0 where
  pub number_is : number ≡ answer_number (enter_of came e).answer
  pub tally_is : left ≡ (enter_of came e).tally
