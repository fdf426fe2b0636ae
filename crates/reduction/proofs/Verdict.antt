-- The verdict: where the rounds have settled, the node of a row and a state has 0 if the row's formula holds in the state, and infinity
-- if not. Assumes nothing.
use Prim.Native.Nat.{ℕ, ◌+◌, ◌*◌, ◌<◌}
use native.Mathlib.Omega.{arith}
use native.Mathlib.Nat.{le_refl}
use lib.ListN.{length}
use mathlib.Core.Path.{◌≡◌, refl, ap}
use mathlib.Core.Logic.{◌↔◌}
use mathlib.Core.List.{List}
use Rattle.value.specs.Value.{Value, fin, inf, ◌≼◌}
use Rattle.value.proofs.Values.{fin-≼, ≼-fin, ≼-inf}
use Rattle.rules.specs.Rounds.{rounds, Settled}
use Rattle.model.specs.Model.{Model}
use Rattle.syntax.specs.declared.Row.{Row}
use Rattle.syntax.specs.Formula.{formula_of}
use Rattle.formula.proofs.Trees.{Ordered}
use Rattle.runs.specs.Systems.{system_of}
use Rattle.runs.specs.Sat.{Sat}
use Rattle.runs.proofs.Proper.{Proper}
use Rattle.reduction.specs.Built.{graph_of}
use Rattle.reduction.proofs.Sound.{sound}
use Rattle.reduction.proofs.Complete.{complete}

-- a value that decides a statement
pub data Decided (S : Type 0) (v : Value) : Type 0 where
  it_holds : S → v ≡ fin 0 → Decided S v
  fails : ¬ S → v ≡ inf → Decided S v

-- what has a number only if it holds, and 0 if it holds
decide : {S : Type 0} (v : Value) → ((d : ℕ) → v ≼ d → S) → (S → v ≼ 0) → Decided S v
decide (fin d) up down =
    let s = up d (fin-≼ (le_refl d)) in
    let h = ≼-fin (down s) in
    it_holds s (ap fin (omega arith))
decide inf up down = fails (λ s. ≼-inf (down s)) refl

-- so it is 0 exactly where the statement holds
zero_exactly : {S : Type 0} {v : Value} → Decided S v → (v ≡ fin 0) ↔ S
zero_exactly (it_holds s e) = (λ z. s, λ t. e)
zero_exactly (fails n e) = (λ z. let clash : ◌≡◌ {A = ℕ} 0 1 = cc in absurd (omega arith), λ t. absurd (n t))

module _ (M : Model) (rows : List Row) (ok : Proper M) (order : Ordered rows) (i : ℕ) (settled : Settled (graph_of M rows) i)
    (r : ℕ) (row : r < length rows) (a : ℕ) (state : a < M.states) where
  pub verdict : Decided (Sat (system_of M) (formula_of rows r) a) (rounds (graph_of M rows) i (a + M.states * r))
  unfolding rounds
  verdict =
      decide (rounds (graph_of M rows) i (a + M.states * r)) ((sound M rows ok order i).row r row a state)
      (complete M rows ok order (rounds (graph_of M rows) i) settled r row a state)

  -- yes, the value 0, exactly where the formula holds
  pub yes_exactly : (rounds (graph_of M rows) i (a + M.states * r) ≡ fin 0) ↔ Sat (system_of M) (formula_of rows r) a
  yes_exactly = zero_exactly verdict
