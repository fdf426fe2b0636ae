-- What an edge is to claims: it is fair to them or not, and backs its source or not.
use Rattle.std.specs.Prelude.{ℕ, ◌≤◌, ◌<◌, true, ◌≡◌}
use Rattle.lists.specs.Lists.{◌∈◌}
use Rattle.value.specs.Value.{fin, finite}
use Rattle.value.specs.Stored.{stored}
use Rattle.rules.specs.Graph.{Target, Hyper, Cover}
use Rattle.rules.specs.Rounds.{Assignment, cover_holds, worst}

-- a hyperedge gives no less than its source claims, as stored: a sum that 64 bits don't hold is infinity's number there
abbrev pub HyperFair : Assignment → Hyper → Type 0
HyperFair x h = stored (x h.source) ≤ stored (worst x h.targets)

-- a cover edge that holds has a source that claims 0
abbrev pub CoverFair : Assignment → Cover → Type 0
CoverFair x c = cover_holds x c ≡ true → x c.source ≡ fin 0

module _ (x : Assignment) (rank : ℕ → ℕ) where
  -- it gives exactly its source's value, which is finite, and all its targets have a smaller rank
  pub record HyperBacks (h : Hyper) : Type 0 where
    pub settled : finite (x h.source) ≡ true
    pub exact : worst x h.targets ≡ x h.source
    pub lower : (t : Target) → t ∈ h.targets → rank t.node < rank h.source

  -- a cover edge holds, and its target has a smaller rank
  pub record CoverBacks (c : Cover) : Type 0 where
    pub holds : cover_holds x c ≡ true
    pub zero : x c.source ≡ fin 0
    pub lower : rank c.target < rank c.source
