-- What the checker of claims answers.
use Rattle.std.specs.Prelude.{Bool, true, false, ℕ, ◌*◌, List, ◌≡◌, length, eqb}
use Rattle.refusal.specs.Number.{nowhere}
use Rattle.refusal.specs.declared.Refusal.TheVariants.{Length}
use Rattle.wire.specs.Read.{Read, Ok, Err, ◌>>=◌, ◌>>◌, demand}
use Rattle.rules.specs.Graph.{Graph}
use Rattle.graph.specs.Stored.{StoredGraph, ruled}
use Rattle.graph.specs.Message.{read_graph}
use Rattle.support.specs.Claims.{claim_width, AcceptsClaims}

-- how long the claims of a graph are
abbrev pub claims_length : Graph → ℕ
claims_length g = g.nodes * claim_width

-- the graph is checked first; claims of the wrong length are LENGTH
unfoldable pub read_claims : (message claims : List ℕ) → Read StoredGraph
read_claims message claims = do
  g ← read_graph message
  demand (eqb (length claims) (claims_length (ruled g))) Length nowhere
  Ok g

-- yes exactly when the claims are accepted; a fault is the answer
abbrev pub Judges : Read StoredGraph → (claims : List ℕ) → Read Bool → Type 0
Judges (Ok g) claims (Ok true) = AcceptsClaims (ruled g) claims
Judges (Ok g) claims (Ok false) = ¬ AcceptsClaims (ruled g) claims
Judges (Ok g) claims (Err e) = ⊥
Judges (Err e) claims r = ◌≡◌ {A = Read Bool} r (Err e)
