-- Where a reading of records begins.
use Rattle.std.specs.Prelude.{ℕ}
use Rattle.wire.specs.declared.State.{State}

-- where the records of a list start
abbrev pub start : ℕ → State
start at = record { at = at; prev = 0; seen = 0 }
