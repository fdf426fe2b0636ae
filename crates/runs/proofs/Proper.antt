-- What the laws of runs ask of a model, and a well-formed model has it. Assumes nothing.
use Prim.Native.Nat.{ℕ, ◌<◌}
use Rattle.model.specs.Model.{Model}
use Rattle.model.specs.WellFormed.{WellFormed}
use Rattle.runs.specs.Systems.{Leads, system_of}

-- transitions lead to states
pub record Proper (M : Model) : Type 0 where
  pub target : {a w c : ℕ} → Leads (system_of M) a w c → c < M.states

pub proper : {M : Model} → WellFormed M → Proper M
proper ok = record { target = λ (k, m). ok.to_named m }
