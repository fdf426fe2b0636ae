-- The entry of what a call of the library returned.
use Rattle.std.specs.Prelude.{ℕ, cond, eqb}
use Rattle.entries.specs.declared.Entry.{Entry}

-- a refusal has no verdict, and a verdict comes with OK: 1 is yes, 2 is no. What is neither is no entry, as number 0 is none
abbrev pub entry_of : (number verdict rounds : ℕ) → Entry
entry_of number verdict rounds =
    cond (eqb verdict 0) (Entry.Refused number rounds)
    (cond (eqb number 0)
    (cond (eqb verdict 1) (Entry.Yes rounds) (cond (eqb verdict 2) (Entry.No rounds) (Entry.Refused 0 rounds)))
    (Entry.Refused 0 rounds))
