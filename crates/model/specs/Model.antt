-- A weighted Kripke structure: states with labels, and transitions between them, with weights and actions.
use Rattle.std.specs.Prelude.{ℕ, ◌/◌, ◌%◌, ◌^◌, List, Bool, get_or, eqb}

-- a step from one state to another, with its weight and its action
pub record Transition : Type 0 where
  pub from : ℕ
  pub weight : ℕ
  pub action : ℕ
  pub to : ℕ

-- the states are the numbers below `states`, and so are the propositions; a label is a number of 32 bits
pub record Model : Type 0 where
  pub states : ℕ
  pub propositions : ℕ
  pub labels : List ℕ
  pub transitions : List Transition

-- bit i of a label says that proposition i holds
abbrev pub bit : ℕ → ℕ → Bool
bit label i = eqb (label / 2 ^ i % 2) 1

-- proposition i holds in state a: the state's label says so
abbrev pub holds : Model → ℕ → ℕ → Bool
holds M i a = bit (get_or M.labels a 0) i
