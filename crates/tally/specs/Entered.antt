-- What entering answers, and the tally after it.
use Rattle.std.specs.Prelude.{cond, Ok, Err}
use Rattle.refusal.specs.Number.{unplaced}
use Rattle.refusal.specs.declared.Refusal.{Refusal}
use Rattle.refusal.specs.declared.Refusal.TheVariants.{Name, Limit}
use Rattle.entries.specs.declared.Entry.{Entry}
use Rattle.tally.specs.declared.Tally.{Tally}
use Rattle.tally.specs.declared.Entered.{Entered}
use Rattle.entries.specs.Entries.{is_entry, rounds_of, count_place}
use Rattle.tally.specs.Tally.{counted_at, takes_more}

-- a refusal changes nothing
abbrev pub turned_away : Tally → Refusal → Entered
turned_away t e = record { tally = t; answer = Err (unplaced e) }

-- number 0 or one outside the table is NAME; else, after 4,294,967,295 accepted, LIMIT; else the entry is counted
unfoldable pub enter_of : Tally → Entry → Entered
enter_of t e =
    cond (is_entry e)
    (cond (takes_more t (rounds_of e)) (record { tally = counted_at t (count_place e) (rounds_of e); answer = Ok tt }) (turned_away t Limit))
    (turned_away t Name)
