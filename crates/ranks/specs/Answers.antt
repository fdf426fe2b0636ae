-- What the writer of claims answers, and what it leaves in its rooms.
use Rattle.std.specs.Prelude.{ℕ, ◌*◌, ◌<◌, List, ◌++◌, ◌⊎◌, ◌≡◌, length, drop, replicate}
use Rattle.refusal.specs.Number.{unplaced}
use Rattle.refusal.specs.declared.Refusal.TheVariants.{Room, Profile}
use Rattle.wire.specs.Read.{Read, Ok, Err}
use Rattle.rules.specs.Graph.{Graph}
use Rattle.rules.specs.Rounds.{Largest}
use Rattle.rules.specs.Walks.{CoverCycle}
use Rattle.graph.specs.Stored.{StoredGraph, ruled}
use Rattle.support.specs.Claims.{claimed_value, AcceptsClaims}
use Rattle.claims.specs.Answers.{claims_length}

-- how many words are lent: 8n
abbrev pub words_lent : Graph → ℕ
words_lent g = g.nodes * 8

-- ROOM: fewer bytes than the claims have, or fewer words than are lent
abbrev pub Narrow : Graph → (claims words : List ℕ) → Type 0
Narrow g claims words = (length claims < claims_length g) ⊎ (length words < words_lent g)

-- neither room is touched
pub record Untouched (claims words claims' words' : List ℕ) : Type 0 where
  pub claims_stay : claims' ≡ claims
  pub words_stay : words' ≡ words

-- the claims hold the largest assignment that obeys the rules, with ranks that are accepted; the words are zero; the rest of both stays
pub record Filled (g : Graph) (claims words claims' words' : List ℕ) : Type 0 where
  pub largest : Largest g (claimed_value claims')
  pub accepted : AcceptsClaims g claims'
  pub same_length : length claims' ≡ length claims
  pub rest_stays : drop (claims_length g) claims' ≡ drop (claims_length g) claims
  pub words_are : words' ≡ replicate (words_lent g) 0 ++ drop (words_lent g) words

-- PROFILE exactly where some cycle passes through a cover edge; then ROOM
pub data WritesOf (g : Graph) (claims words claims' words' : List ℕ) : Read Unit → Type 0 where
  cyclic : CoverCycle g → Untouched claims words claims' words' → WritesOf g claims words claims' words' (Err (unplaced Profile))
  narrow : ¬ CoverCycle g → Narrow g claims words → Untouched claims words claims' words' → WritesOf g claims words claims' words' (Err (unplaced Room))
  filled : ¬ CoverCycle g → ¬ Narrow g claims words → Filled g claims words claims' words' → WritesOf g claims words claims' words' (Ok tt)

-- a fault of the graph is the answer
abbrev pub Writes : Read StoredGraph → (claims words claims' words' : List ℕ) → Read Unit → Type 0
Writes (Ok g) claims words claims' words' r = WritesOf (ruled g) claims words claims' words' r
Writes (Err e) claims words claims' words' r = (◌≡◌ {A = Read Unit} r (Err e)) × Untouched claims words claims' words'
