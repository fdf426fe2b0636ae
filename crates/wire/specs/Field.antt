-- How wide a field is, and what is wrong with one that doesn't fit.
use Rattle.std.specs.Prelude.{ℕ}
use Rattle.refusal.specs.declared.Fault.{Fault}
use Rattle.refusal.specs.declared.Refusal.TheVariants.{Length}
use Rattle.refusal.specs.Number.{unplaced}
use Rattle.wire.specs.declared.Width.{Width}
use Rattle.wire.specs.declared.Width.TheVariants.{One, Two, Four}

-- how many bytes a width is
abbrev pub width_of : Width → ℕ
width_of One = 1
width_of Two = 2
width_of Four = 4

-- how many bytes a number of 64 bits has
abbrev pub long_width : ℕ
long_width = 8

-- too few bytes are LENGTH, and no field's fault
abbrev pub short : Fault
short = unplaced Length
