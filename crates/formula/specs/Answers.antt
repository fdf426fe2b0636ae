-- What the check answers, from what the reading gives.
use Rattle.std.specs.Prelude.{ℕ, List, length}
use Rattle.wire.specs.Read.{Read, Ok, ◌>>=◌}
use Rattle.syntax.specs.declared.Row.{Row}

-- how many rows an accepted formula has, or the first fault
unfoldable pub checked : Read (List Row) → Read ℕ
checked x = do
  rows ← x
  Ok (length rows)
