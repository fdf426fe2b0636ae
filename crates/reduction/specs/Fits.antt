-- What the reduction's laws ask of a built graph's size.
use Rattle.std.specs.Prelude.{◌≤◌, length}
use Rattle.lists.specs.Lists.{◌∈◌}
use Rattle.rules.specs.Graph.{Graph, Hyper}
use Rattle.graph.specs.WellFormed.{targets_of}

-- the graph passes no limit on n, h, c or targets (all together or of one hyperedge); one that does is refused with SIZE
pub record Fits (g : Graph) : Type 0 where
  pub nodes_fit : g.nodes ≤ 4096
  pub hypers_fit : length g.hypers ≤ 65535
  pub covers_fit : length g.covers ≤ 4096
  pub targets_fit : targets_of g.hypers ≤ 262144
  pub each_fits : {h : Hyper} → h ∈ g.hypers → length h.targets ≤ 65535
