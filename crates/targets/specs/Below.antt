-- How far what targets give stays below infinity.
use Rattle.std.specs.Prelude.{ℕ, ◌-◌, List}
use Rattle.value.specs.Stored.{stored, infinite}
use Rattle.rules.specs.Graph.{Target}
use Rattle.rules.specs.Rounds.{Assignment, worst}

-- how far the greatest weight plus value over targets stays below infinity: all the way with none, 0 once one is infinite
unfoldable pub below : Assignment → List Target → ℕ
below x ts = infinite - stored (worst x ts)
