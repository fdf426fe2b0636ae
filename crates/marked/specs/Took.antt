-- What a turn takes in: records between those that are marked, and between which nodes their sources stand.
use Rattle.std.specs.Prelude.{ℕ, ◌+◌, ◌<◌, ◌≤◌, min, List, ◌⊎◌, ◌≡◌, get_or}
use Rattle.lists.specs.Lists.{◌∈◌}
use Rattle.value.specs.Stored.{stored}
use Rattle.wire.specs.Layout.{items, end}
use Rattle.rules.specs.Graph.{Graph, Hyper, Cover}
use Rattle.rules.specs.Rounds.{round}
use Rattle.graph.specs.Format.{graph_header}
use Rattle.graph.specs.Layouts.{hyper_layout, cover_layout}
use Rattle.graph.specs.declared.view.Records.{Records}
use Rattle.halves.specs.Held.{held}
use Rattle.halves.specs.Room.{half}
use Rattle.scans.specs.Scan.{Done}
use Rattle.notes.specs.declared.Marks.{Marks}
use Rattle.notes.specs.declared.Span.{Span}

-- numbers from a to before z; numbers of the one kind or the other
abbrev pub Within : (a z : ℕ) → ℕ → Type 0
Within a z j = (a ≤ j) × (j < z)

abbrev pub Either : (P Q : ℕ → Type 0) → ℕ → Type 0
Either P Q j = P j ⊎ Q j

-- the marks are those of records that exist, and the first marked hyperedge stands at its position
pub record Stands (g : Records) (m : Marks) : Type 0 where
  pub upto : m.last ≤ g.hypers
  pub there : m.first < m.last → m.at ≡ end (hyper_layout g.bytes.now g.nodes) m.first graph_header
  pub covers_upto : m.high ≤ g.covers

-- a node in one of two spans
pub record Among (d : Span) (v : ℕ) : Type 0 where
  pub outer : Within d.lo d.hi v
  pub inner : ¬ Within d.gap d.behind v

-- a part of the graph was taken in that has the hyperedges and the cover edges of these numbers; its sources are in the spans
pub record Took (g : Records) (hypers covers : ℕ → Type 0) (b₀ b : List ℕ) (d : Span) : Type 0 where
  pub part : Graph
  pub nodes : part.nodes ≡ g.nodes
  pub room : Done g.nodes 0 g.nodes b₀ b (λ v. min (get_or b₀ (g.nodes + v) 0) (stored (round part (held (half g.nodes 0 b₀)) v)))
  pub hyper_of : {x : Hyper} → x ∈ part.hypers → x ∈ items (hyper_layout g.bytes.now g.nodes) g.hypers graph_header
  pub cover_of : {x : Cover} → x ∈ part.covers → x ∈ items (cover_layout g.bytes.now g.nodes) g.covers g.middle
  pub hyper_has : (j : ℕ) → hypers j → (hyper_layout g.bytes.now g.nodes).item (end (hyper_layout g.bytes.now g.nodes) j graph_header) ∈ part.hypers
  pub cover_has : (j : ℕ) → covers j → (cover_layout g.bytes.now g.nodes).item (end (cover_layout g.bytes.now g.nodes) j g.middle) ∈ part.covers
  pub in_order : (d.lo ≤ d.gap) × (d.gap ≤ d.behind) × (d.behind ≤ d.hi) × (d.hi ≤ g.nodes)
  pub hyper_among : {x : Hyper} → x ∈ part.hypers → Among d x.source
  pub cover_among : {x : Cover} → x ∈ part.covers → Among d x.source
