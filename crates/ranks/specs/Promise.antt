-- What the customer is promised of the writer of claims.
use Rattle.std.specs.Prelude.{ℕ, List}
use Rattle.wire.specs.Read.{Read, Ok, Err}
use Rattle.graph.specs.Stored.{StoredGraph, ruled}
use Rattle.graph.specs.WellFormed.{Accepted}
use Rattle.ranks.specs.Answers.{WritesOf, Untouched}

-- the message is the writing of a well-formed graph, of which claims were written
pub record WrittenAt (message claims words claims' words' : List ℕ) : Type 0 where
  pub graph : StoredGraph
  pub accepted : Accepted message graph
  pub writes : WritesOf (ruled graph) claims words claims' words' (Ok tt)

-- a refusal changes no lent memory
abbrev pub WrittenPromise : (message claims words claims' words' : List ℕ) → Read Unit → Type 0
WrittenPromise message claims words claims' words' (Ok tt) = WrittenAt message claims words claims' words'
WrittenPromise message claims words claims' words' (Err e) = Untouched claims words claims' words'
