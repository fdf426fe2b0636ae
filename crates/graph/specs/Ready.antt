-- What work on an accepted message relies on: the bytes can be scanned, and no value of any round reaches the number that stores infinity.
use Rattle.std.specs.Prelude.{ℕ, ◌<◌, ◌≤◌, List, ◌≡◌}
use Rattle.value.specs.Value.{fin}
use Rattle.value.specs.Stored.{infinite}
use Rattle.rules.specs.Graph.{Graph, Closed}
use Rattle.rules.specs.Rounds.{rounds}
use Rattle.wire.specs.Bytes.{number}
use Rattle.wire.specs.Layout.{Layout, end}
use Rattle.graph.specs.Format.{graph_header}
use Rattle.graph.specs.Layouts.{hyper_layout, cover_layout, decoded, Scannable}

-- every finite value of every round has a number of its own
abbrev pub Storable : Graph → Type 0
Storable g = (i v k : ℕ) → v < g.nodes → rounds g i v ≡ fin k → k < infinite

-- records whose sources never fall, by number
abbrev pub Climbs : {A : Type 0} → List ℕ → Layout A → (h at : ℕ) → Type 0
Climbs s L h at = (i j : ℕ) → i ≤ j → j < h → number 2 s (end L i at) ≤ number 2 s (end L j at)

-- the message's bytes hold a closed graph with these counts, all of whose rounds can be stored
pub record Ready (s : List ℕ) (n h c : ℕ) : Type 0 where
  pub sound : Scannable s n h c
  pub closed : Closed (decoded s n h c)
  pub storable : Storable (decoded s n h c)
  pub hypers_climb : Climbs s (hyper_layout s n) h graph_header
  pub covers_climb : Climbs s (cover_layout s n) c (end (hyper_layout s n) h graph_header)
