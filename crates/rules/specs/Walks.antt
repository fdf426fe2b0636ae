-- Walks on a graph, and cycles through a cover edge.
use Rattle.std.specs.Prelude.{ℕ, ◌≡◌}
use Rattle.lists.specs.Lists.{◌∈◌}
use Rattle.rules.specs.Graph.{Graph, Target, Hyper, Cover}

-- a step goes from a source to any target of its hyperedges or cover edges
pub data Step (g : Graph) (u v : ℕ) : Type 0 where
  along : (h : Hyper) (t : Target) → h ∈ g.hypers → t ∈ h.targets → h.source ≡ u → t.node ≡ v → Step g u v
  over : (c : Cover) → c ∈ g.covers → c.source ≡ u → c.target ≡ v → Step g u v

-- a walk from u: no step, or a walk and a step more
pub data Walk (g : Graph) (u : ℕ) : ℕ → Type 0 where
  stay : Walk g u u
  onward : {v w : ℕ} → Walk g u v → Step g v w → Walk g u w

-- a cycle passes through a cover edge: from the edge's target a walk leads back to its source
pub record CoverCycle (g : Graph) : Type 0 where
  pub edge : Cover
  pub there : edge ∈ g.covers
  pub back : Walk g edge.target edge.source
