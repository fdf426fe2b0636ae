-- What holds of each target of a row's hyperedges and of an until's steps: it is enough that it holds of the operands' nodes, and of
-- the helpers of the states that transitions lead to. Assumes nothing.
use Prim.Native.Nat.{ℕ, ◌+◌, ◌*◌, ◌<◌}
use mathlib.Core.Bool.{Bool, true, false, cond, not}
use mathlib.Core.List.{[], ◌∷◌, map}
use Rattle.lists.specs.Lists.{◌∈◌}
use Rattle.lists.proofs.Places.{first, second}
use Rattle.lists.proofs.Each.{Each, each_none, each_more, each_map}
use Rattle.rules.specs.Graph.{Target}
use Rattle.model.specs.Model.{Model, holds}
use Rattle.syntax.specs.declared.Quantifier.{Quantifier}
use Rattle.syntax.specs.declared.Quantifier.TheVariants.{Some, Every}
use Rattle.syntax.specs.declared.Row.{Row}
use Rattle.syntax.specs.declared.Row.TheVariants.{True, False, Proposition, Negation, And, Or, Next, Until}
use Rattle.syntax.specs.Rows.{operands}
use Rattle.runs.specs.Systems.{Leads, system_of}
use Rattle.runs.proofs.Proper.{Proper}
use Rattle.reduction.specs.Built.{to, out, near, row_edges, step_edges}
use Rattle.reduction.proofs.Out.{∈-any, out_leads, near_step}

module _ (M : Model) (ok : Proper M) (P : Target → Type 0) where
  abbrev s : ℕ
  s = M.states

  test_each : (t : Bool) → Each (Each P) (cond t ([] ∷ []) [])
  test_each true = each_more each_none each_none
  test_each false = each_none

  pub row_each : (row : Row) → ((l : ℕ) → l ∈ operands row → (c : ℕ) → c < s → P (to 0 (c + s * l))) → {a : ℕ} → a < s → Each (Each P) (row_edges M row a)
  row_each True op l = each_more each_none each_none
  row_each False op l = each_none
  row_each (Proposition i) op {a} l = test_each (holds M i a)
  row_each (Negation i) op {a} l = test_each (not (holds M i a))
  row_each (And j k) op {a} l = each_more (each_more (op j first a l) (each_more (op k second a l) each_none)) each_none
  row_each (Or j k) op {a} l = each_more (each_more (op j first a l) each_none) (each_more (each_more (op k second a l) each_none) each_none)
  row_each (Next Some A j b) op {a} l =
      each_map (λ (t : Target). to 0 (t.node + s * j) ∷ []) (near M A b a)
      (λ t m. each_more (op j first t.node (let u = near_step M a A b m in ok.target (u.action, u.step))) each_none)
  row_each (Next Every A j b) op {a} l =
      each_more
      (each_map (λ (t : Target). to 0 (t.node + s * j)) (near M A b a) (λ t m. op j first t.node (let u = near_step M a A b m in ok.target (u.action, u.step))))
      each_none
  row_each (Until q j k b) op l = each_none

  pub step_each : (q : Quantifier) (j h : ℕ) {a : ℕ} → P (to 0 (a + s * j)) → ((w c : ℕ) → Leads (system_of M) a w c → P (to w (c + s * h))) → Each (Each P) (step_edges M q j h a)
  step_each Some j h {a} p p' =
      each_map (λ (t : Target). to 0 (a + s * j) ∷ to t.weight (t.node + s * h) ∷ []) (out M a)
      (λ t m. each_more p (each_more (p' t.weight t.node (out_leads M a m)) each_none))
  step_each Every j h {a} p p' =
      let edge : Each (Each P) ((to 0 (a + s * j) ∷ map (λ (t : Target). to t.weight (t.node + s * h)) (out M a)) ∷ []) =
      each_more (each_more p (each_map (λ (t : Target). to t.weight (t.node + s * h)) (out M a) (λ t m. p' t.weight t.node (out_leads M a m)))) each_none in
      record { at = λ ts m. edge.at ts (∈-any (out M a) m).2 }
