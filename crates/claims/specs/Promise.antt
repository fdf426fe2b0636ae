-- What the customer is promised of the checker of claims.
use Rattle.std.specs.Prelude.{Bool, true, false, ℕ, List, ◌≡◌, length}
use Rattle.wire.specs.Read.{Read, Ok, Err}
use Rattle.rules.specs.Rounds.{Largest}
use Rattle.graph.specs.Stored.{StoredGraph, ruled}
use Rattle.graph.specs.WellFormed.{Accepted}
use Rattle.support.specs.Claims.{claimed_value, AcceptsClaims}
use Rattle.claims.specs.Answers.{claims_length}

-- the message is the writing of a well-formed graph, and the claims are as long as its nodes ask; this holds of the two
pub record JudgedAt (message claims : List ℕ) (Holds : StoredGraph → Type 0) : Type 0 where
  pub graph : StoredGraph
  pub accepted : Accepted message graph
  pub long : length claims ≡ claims_length (ruled graph)
  pub holds : Holds graph

-- yes: the claims are accepted, and hold the largest assignment that obeys the rules, on every graph. No: they are not accepted
abbrev pub JudgedPromise : (message claims : List ℕ) → Read Bool → Type 0
JudgedPromise message claims (Ok true) = JudgedAt message claims (λ g. AcceptsClaims (ruled g) claims × Largest (ruled g) (claimed_value claims))
JudgedPromise message claims (Ok false) = JudgedAt message claims (λ g. ¬ AcceptsClaims (ruled g) claims)
JudgedPromise message claims (Err e) = Unit
