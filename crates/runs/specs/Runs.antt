-- The maximal runs of a system: walks along its steps that are endless, or end in a state that no step leads on from.
use Rattle.std.specs.Prelude.{ℕ, suc, zero, ◌+◌, ◌<◌, ◌≡◌}
use Rattle.runs.specs.Systems.{System, Leads}

-- no step leads on from the state
abbrev pub Dead : (S : System) → S.State → Type 0
Dead S a = (w : ℕ) (c : S.State) → ¬ Leads S a w c

-- an endless walk from a: the state at each position, and the weight of the step from there to the next
pub record Endless (S : System) (a : S.State) : Type 0 where
  pub at : ℕ → S.State
  pub weight : ℕ → ℕ
  pub starts : at 0 ≡ a
  pub steps : (i : ℕ) → Leads S (at i) (weight i) (at (suc i))

-- a walk from a that ends in a dead state: the state at each position up to the last, and the weight of each step before it. What `at`
-- and `weight` say of later positions is of no account
pub record Ending (S : System) (a : S.State) : Type 0 where
  pub last : ℕ
  pub at : ℕ → S.State
  pub weight : ℕ → ℕ
  pub starts : at 0 ≡ a
  pub steps : (i : ℕ) → i < last → Leads S (at i) (weight i) (at (suc i))
  pub ends : Dead S (at last)

-- a maximal run is one or the other
pub data Run (S : System) (a : S.State) : Type 0 where
  endless : Endless S a → Run S a
  ending : Ending S a → Run S a

-- the sum of the weights before position i
unfoldable pub total : (ℕ → ℕ) → ℕ → ℕ
total w zero = 0
total w (suc i) = w 0 + total (λ j. w (suc j)) i
