-- What the check answers, from what the reading gives.
use Rattle.std.specs.Prelude.{length}
use Rattle.wire.specs.Read.{Read, Ok, ◌>>=◌}
use Rattle.model.specs.Model.{Model}
use Rattle.model.specs.declared.Counts.{Counts}

-- the counts of a model
abbrev pub counts_of : Model → Counts
counts_of M = record { states = M.states; propositions = M.propositions; transitions = length M.transitions }

-- the counts of an accepted model, or the first fault
unfoldable pub checked : Read Model → Read Counts
checked x = do
  M ← x
  Ok (counts_of M)
