-- The verdict at work, and its premises met: from the table, T13 to T15 hold and fail on model M as the paper says. Assumes nothing.
use Prim.Native.Nat.{ℕ, suc, zero, ◌+◌, ◌*◌, ◌<◌}
use native.Mathlib.Omega.{arith}
use lib.Dec.{lit<}
use mathlib.Core.Path.{◌≡◌, refl}
use mathlib.Core.Logic.{◌↔◌}
use mathlib.Core.List.{List, [], ◌∷◌}
use mathlib.Core.Option.{some}
use lib.ListN.{get_elem?}
use Rattle.lists.specs.Lists.{◌∈◌}
use Rattle.lists.proofs.Places.{place-∈}
use Rattle.lists.proofs.Each.{Each, each_none, each_more}
use Rattle.value.specs.declared.Bound.{Bound}
use Rattle.value.specs.declared.Bound.TheVariants.{Within, Unbounded}
use Rattle.value.specs.Value.{Value}
use Rattle.rules.specs.Graph.{Closed}
use Rattle.rules.specs.Rounds.{rounds}
use Rattle.rules.proofs.Count.{count_first}
use Rattle.model.specs.Model.{Transition}
use Rattle.syntax.specs.declared.Quantifier.{Quantifier}
use Rattle.syntax.specs.declared.Quantifier.TheVariants.{Some, Every}
use Rattle.syntax.specs.declared.Row.{Row}
use Rattle.syntax.specs.declared.Row.TheVariants.{Proposition, Until}
use Rattle.syntax.specs.Rows.{operands}
use Rattle.syntax.specs.WellFormed.{RowAt}
use Rattle.formula.proofs.Trees.{Ordered}
use Rattle.runs.proofs.Proper.{Proper}
use Rattle.reduction.specs.Built.{graph_of}
use Rattle.reduction.proofs.Built.{built_closed}
use Rattle.reduction.proofs.Verdict.{yes_exactly}
use Rattle.settling.specs.declared.Verdict.{Verdict}
use Rattle.settling.specs.declared.Verdict.TheVariants.{Yes, No}
use Rattle.states.specs.Promise.{Satisfies}
use Rattle.states.proofs.Deciding.{yes_zero}
use Rattle.known.specs.Questions.{M, p0_until_p1, on-M, T13, T14, T15}
use Rattle.known.specs.Table.{ask, known}
use Rattle.known.proofs.Table.{row_within, row_verdict}

-- M is proper
proper-M : Proper M
proper-M = record { target = λ (k, m). targets.at _ m }
  where
    targets : Each (λ (t : Transition). t.to < 2) M.transitions
    targets = each_more (lit< tt) (each_more (lit< tt) (each_more (lit< tt) each_none))

module _ (q : Quantifier) (b : Bound) where
  -- the rows are in order
  ordered_rows : Ordered (p0_until_p1 q b)
  ordered_rows = record { earlier = λ i at m. earlier i at m }
    where
      earlier : (i : ℕ) {row : Row} → RowAt (p0_until_p1 q b) i row → {l : ℕ} → l ∈ operands row → l < i
      earlier zero {row} at m = let e : row ≡ Proposition 0 = cc in elim (rw e at m) [ ]
      earlier (suc zero) {row} at m = let e : row ≡ Proposition 1 = cc in elim (rw e at m) [ ]
      earlier (suc (suc zero)) {row} at {l} m =
          let e : row ≡ Until q 0 1 b = cc in
          let below : Each (λ (l : ℕ). l < 2) (0 ∷ 1 ∷ []) = each_more (lit< tt) (each_more (lit< tt) each_none) in
          below.at l (rw e at m)
      earlier (suc (suc (suc i))) at m = let z : ◌≡◌ {A = ℕ} 0 1 = cc in absurd (omega arith)

  -- the graph that is built of M and them is closed
  closed : Closed (graph_of M (p0_until_p1 q b))
  closed = built_closed M (p0_until_p1 q b) proper-M ordered_rows

  -- the verdict that a row of the table says of a state is yes exactly where the state satisfies the formula
  exactly : (place count : ℕ) (values : List Value) (verdicts : List Verdict) {y : Verdict}
      → get_elem? known place ≡ some (ask (on-M (p0_until_p1 q b)) 9 0 count values verdicts)
      → (a : ℕ) → a < 2 → get_elem? verdicts a ≡ some y → (y ≡ Yes) ↔ Satisfies (on-M (p0_until_p1 q b)) a
  exactly place count values verdicts {y} is a l at =
      let r = ask (on-M (p0_until_p1 q b)) 9 0 count values verdicts in
      let there = place-∈ known place is in
      let first = count_first (graph_of M (p0_until_p1 q b)) closed in
      let settled = rw (row_within r there refl).1 at first.settled in
      let yes-is = yes_exactly M (p0_until_p1 q b) proper-M ordered_rows count settled 2 (lit< tt) a l in
      let zero_is = yes_zero (rounds (graph_of M (p0_until_p1 q b)) count (a + 2 * 2)) in
      rw (← (row_verdict (on-M (p0_until_p1 q b)) 9 count values verdicts there a at)) (λ e. yes-is.0 (zero_is.0 e), λ s. zero_is.1 (yes-is.1 s))

pub T13-holds : Satisfies T13 0
T13-holds = (exactly Some (Within 2) 12 4 _ (Yes ∷ Yes ∷ []) refl 0 (lit< tt) refl).0 refl

pub T14-fails : ¬ Satisfies T14 0
T14-fails h = let e = (exactly Some (Within 1) 13 3 _ (No ∷ Yes ∷ []) refl 0 (lit< tt) refl).1 h in let z : ◌≡◌ {A = ℕ} 0 1 = cc in omega arith

pub T15-fails : ¬ Satisfies T15 0
T15-fails h = let e = (exactly Every Unbounded 14 3 _ (No ∷ Yes ∷ []) refl 0 (lit< tt) refl).1 h in let z : ◌≡◌ {A = ℕ} 0 1 = cc in omega arith

pub T15-holds : Satisfies T15 1
T15-holds = (exactly Every Unbounded 14 3 _ (No ∷ Yes ∷ []) refl 1 (lit< tt) refl).0 refl
