-- Where each node is a target: a place for each target of a hyperedge and for each cover edge, linked for each node.
use Rattle.std.specs.Prelude.{ℕ, ◌+◌, ◌*◌, ◌<◌, ◌≤◌, List, ◌⊎◌, ◌≡◌, length, get_or}
use Rattle.lists.specs.Lists.{◌∈◌}
use Rattle.wire.specs.Bytes.{number}
use Rattle.wire.specs.Layout.{end}
use Rattle.rules.specs.Graph.{Target}
use Rattle.graph.specs.Format.{graph_header, hyper_width, target_width, cover_target_at, cover_width}
use Rattle.graph.specs.Layouts.{hyper_layout, cover_layout}
use Rattle.links.specs.declared.Place.{Place}

-- a graph whose nodes, places and positions can be numbered, in lists that are so long
pub record Fits (n h c middle most : ℕ) : Type 0 where
  pub nodes : n ≤ most
  pub positions : middle + c * cover_width ≤ 65535
  pub places : middle + c * target_width ≤ graph_header + h * hyper_width + most * target_width

-- a place of nothing
abbrev pub nothing : Place
nothing = record { link = 0; spot = 0; source = 0 }

-- place q of a list, and nothing where there is none
abbrev pub place_at : List Place → ℕ → Place
place_at places q = get_or places q nothing

-- the lists: a head for each node, and so many places, which a number of 16 bits can tell
pub record Long (n most : ℕ) (heads : List ℕ) (places : List Place) : Type 0 where
  pub nodes : n ≤ length heads
  pub many : length places ≡ most
  pub short : most ≤ 65535

-- place q is on the chain that starts at a head: 0 is none, and k + 1 is place k, whose link leads on
pub data Reached (places : List Place) (q : ℕ) : ℕ → Type 0 where
  here : {head : ℕ} → head ≡ q + 1 → Reached places q head
  further : {head : ℕ} (place : ℕ) → head ≡ place + 1 → Reached places q (place_at places place).link → Reached places q head

-- the chain of a node has a place of the record at a position
pub record Finds (heads : List ℕ) (places : List Place) (v at : ℕ) : Type 0 where
  pub place : ℕ
  pub reached : Reached places place (get_or heads v 0)
  pub stands : (place_at places place).spot ≡ at

-- one of h hyperedges, or of c cover edges at `middle`, stands at a position
pub data RecordAt (s : List ℕ) (n h c middle at : ℕ) : Type 0 where
  hyper : (j : ℕ) → j < h → at ≡ end (hyper_layout s n) j graph_header → RecordAt s n h c middle at
  cover : (j : ℕ) → j < c → at ≡ end (cover_layout s n) j middle → RecordAt s n h c middle at

-- where hyperedge j stands, and its targets; where cover edge j stands, and its target
abbrev pub hyper_at : List ℕ → (n j : ℕ) → ℕ
hyper_at s n j = end (hyper_layout s n) j graph_header

abbrev pub targets_at : List ℕ → (n j : ℕ) → List Target
targets_at s n j = ((hyper_layout s n).item (hyper_at s n j)).targets

abbrev pub cover_at : List ℕ → (n middle j : ℕ) → ℕ
cover_at s n middle j = end (cover_layout s n) j middle

abbrev pub target_of : List ℕ → (n middle j : ℕ) → ℕ
target_of s n middle j = number 2 s (cover_at s n middle j + cover_target_at)

-- place q tells the source of the record that stands there
abbrev pub Told : List ℕ → List Place → ℕ → Type 0
Told s places q = (place_at places q).source ≡ number 2 s (place_at places q).spot

-- so many places are linked: the targets of h hyperedges, but for those left of the last of them, and c cover edges
pub record Linked (s : List ℕ) (n middle most h : ℕ) (rest : List Target) (c many : ℕ) (heads : List ℕ) (places : List Place) : Type 0 where
  pub long : Long n most heads places
  pub within : (v : ℕ) → get_or heads v 0 ≤ many
  pub falls : (q : ℕ) → (place_at places q).link ≤ q
  pub records : (q : ℕ) → q < many → RecordAt s n h c middle (place_at places q).spot
  pub told : (q : ℕ) → q < many → Told s places q
  pub hypers : (j : ℕ) (t : Target) → j < h → t ∈ targets_at s n j → Finds heads places t.node (hyper_at s n j) ⊎ ((j + 1 ≡ h) × (t ∈ rest))
  pub covers : (j : ℕ) → j < c → Finds heads places (target_of s n middle j) (cover_at s n middle j)

-- all are linked: what a chain leads to is a record, and the chain of a node leads to every record that has the node as a target
pub record Index (s : List ℕ) (n h c middle most : ℕ) (heads : List ℕ) (places : List Place) : Type 0 where
  pub long : Long n most heads places
  pub within : (v : ℕ) → get_or heads v 0 ≤ length places
  pub falls : (q : ℕ) → (place_at places q).link ≤ q
  pub records : (v q : ℕ) → Reached places q (get_or heads v 0) → RecordAt s n h c middle (place_at places q).spot
  pub told : (v q : ℕ) → Reached places q (get_or heads v 0) → Told s places q
  pub hypers : (j : ℕ) (t : Target) → j < h → t ∈ targets_at s n j → Finds heads places t.node (hyper_at s n j)
  pub covers : (j : ℕ) → j < c → Finds heads places (target_of s n middle j) (cover_at s n middle j)
