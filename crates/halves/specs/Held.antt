-- What the stored numbers of a room mean.
use Rattle.std.specs.Prelude.{ℕ, List, get_or}
use Rattle.value.specs.Stored.{meaning}
use Rattle.rules.specs.Rounds.{Assignment}

-- the assignment that stored numbers mean
abbrev pub held : List ℕ → Assignment
held room v = meaning (get_or room v 0)
