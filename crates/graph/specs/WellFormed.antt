-- The graphs that messages say: every count within its limit, every list in order, every name of a node that exists.
use Rattle.std.specs.Prelude.{ℕ, ◌+◌, ◌≤◌, ◌<◌, ◌^◌, List, [], ◌∷◌, map, ◌≡◌, length}
use Rattle.lists.specs.Lists.{◌∈◌}
use Rattle.lists.specs.Order.{Rising}
use Rattle.rules.specs.Graph.{Hyper, Cover, Target, Closed}
use Rattle.value.specs.Coded.{Sayable}
use Rattle.graph.specs.Stored.{StoredGraph}
use Rattle.graph.specs.Write.{write_graph}

-- the targets of all hyperedges together
unfoldable pub targets_of : List Hyper → ℕ
targets_of [] = 0
targets_of (h ∷ hs) = length h.targets + targets_of hs

pub record WellFormed (g : StoredGraph) : Type 0 where
  -- the counts of the table
  pub some_node : 1 ≤ g.nodes
  pub nodes_fit : g.nodes ≤ 4096
  pub hypers_fit : length g.hypers ≤ 65535
  pub targets_fit : targets_of g.hypers ≤ 262144
  pub each_fits : {h : Hyper} → h ∈ g.hypers → length h.targets ≤ 65535
  pub covers_fit : length g.covers ≤ 4096
  -- no source is below the one before it in the same list
  pub hypers_ordered : Rising (map (λ h. h.source) g.hypers)
  pub covers_ordered : Rising (map (λ c. c.source) g.covers)
  -- every node that is named exists
  pub closed : Closed g
  -- a weight is any 4-byte number, and a bound one of those that 4 bytes can say
  pub weights_fit : {h : Hyper} {t : Target} → h ∈ g.hypers → t ∈ h.targets → t.weight < 2 ^ 32
  pub bounds_fit : {c : Cover} → c ∈ g.covers → Sayable c.bound

-- the message is the writing of the well-formed graph
pub record Accepted (message : List ℕ) (graph : StoredGraph) : Type 0 where
  pub writing : message ≡ write_graph graph
  pub well_formed : WellFormed graph
