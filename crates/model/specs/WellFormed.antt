-- The models that messages say: every count within its limit, every list in order, every name of a state that exists.
use Rattle.std.specs.Prelude.{ℕ, ◌≤◌, ◌<◌, ◌^◌, map, ◌≡◌, length}
use Rattle.lists.specs.Lists.{◌∈◌}
use Rattle.lists.specs.Order.{Rising}
use Rattle.model.specs.Model.{Model, Transition}

pub record WellFormed (M : Model) : Type 0 where
  -- the counts of the table
  pub some_state : 1 ≤ M.states
  pub states_fit : M.states ≤ 256
  pub propositions_fit : M.propositions ≤ 32
  pub transitions_fit : length M.transitions ≤ 65535
  -- a label for each state, with no bit at p or above
  pub labelled : length M.labels ≡ M.states
  pub labels_fit : {l : ℕ} → l ∈ M.labels → l < 2 ^ M.propositions
  -- no `from` is below the one before it, every state that is named exists; a weight is any 4-byte number, and an action any 2-byte number
  pub ordered : Rising (map (λ t. t.from) M.transitions)
  pub from_named : {t : Transition} → t ∈ M.transitions → t.from < M.states
  pub to_named : {t : Transition} → t ∈ M.transitions → t.to < M.states
  pub weights_fit : {t : Transition} → t ∈ M.transitions → t.weight < 2 ^ 32
  pub actions_fit : {t : Transition} → t ∈ M.transitions → t.action < 2 ^ 16
