-- What runs are runs of: states, steps between them, and the propositions that hold in them. A model gives a system.
use Rattle.std.specs.Prelude.{ℕ, Bool}
use Rattle.lists.specs.Lists.{◌∈◌}
use Rattle.model.specs.Model.{Model, holds}

pub record System : Type 1 where
  pub State : Type 0
  -- a step of a state, at a weight and by an action, to a state
  pub Step : State → (weight action : ℕ) → State → Type 0
  -- a proposition holds in a state
  pub Holds : ℕ → State → Bool

-- a step leads from a state at a weight to a state, whatever its action
abbrev pub Leads : (S : System) → S.State → (weight : ℕ) → S.State → Type 0
Leads S a w c = (action : ℕ) × S.Step a w action c

-- a transition is a step from a to c, of weight w, by action k
abbrev pub Step : Model → (a w k c : ℕ) → Type 0
Step M a w k c = record { from = a; weight = w; action = k; to = c } ∈ M.transitions

-- a model's system: its states are numbers
abbrev pub system_of : Model → System
system_of M = record { State = ℕ; Step = Step M; Holds = holds M }
