-- What the check answers, from what the reading gives.
use Rattle.std.specs.Prelude.{length}
use Rattle.wire.specs.Read.{Read, Ok, ◌>>=◌}
use Rattle.graph.specs.Stored.{StoredGraph}
use Rattle.graph.specs.WellFormed.{targets_of}
use Rattle.graph.specs.declared.Counts.{Counts}

-- the counts of a graph, and the number of all its targets
abbrev pub counts_of : StoredGraph → Counts
counts_of g = record { nodes = g.nodes; hypers = length g.hypers; covers = length g.covers; targets = targets_of g.hypers }

-- those of an accepted graph, or the first fault
unfoldable pub checked : Read StoredGraph → Read Counts
checked x = do
  g ← x
  Ok (counts_of g)
