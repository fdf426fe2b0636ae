-- A symbolic dependency graph: hyperedges with weighted targets, and cover edges with a bound.
use Rattle.std.specs.Prelude.{ℕ, ◌<◌, max, List, [], ◌∷◌}
use Rattle.lists.specs.Lists.{◌∈◌}
use Rattle.value.specs.declared.Bound.{Bound}

-- a target of a hyperedge: a node, and the weight on the way to it
pub record Target : Type 0 where
  pub weight : ℕ
  pub node : ℕ

-- a hyperedge of a node
pub record Hyper : Type 0 where
  pub source : ℕ
  pub targets : List Target

-- a cover edge: of one node, with a bound, to a target
pub record Cover : Type 0 where
  pub source : ℕ
  pub bound : Bound
  pub target : ℕ

-- the nodes are the numbers below `nodes`
pub record Graph : Type 0 where
  pub nodes : ℕ
  pub hypers : List Hyper
  pub covers : List Cover

-- every node that an edge names exists
pub record Closed (g : Graph) : Type 0 where
  pub hyper_source : {h : Hyper} → h ∈ g.hypers → h.source < g.nodes
  pub hyper : {h : Hyper} {t : Target} → h ∈ g.hypers → t ∈ h.targets → t.node < g.nodes
  pub cover_source : {c : Cover} → c ∈ g.covers → c.source < g.nodes
  pub cover : {c : Cover} → c ∈ g.covers → c.target < g.nodes

-- the largest weight of any hyperedge's target; 0 with none
unfoldable pub heaviest_of : List Target → ℕ
heaviest_of [] = 0
heaviest_of (t ∷ ts) = max t.weight (heaviest_of ts)

unfoldable pub heaviest : List Hyper → ℕ
heaviest [] = 0
heaviest (h ∷ hs) = max (heaviest_of h.targets) (heaviest hs)
