-- The verdict is yes exactly when the state satisfies the formula by its maximal runs. Assumes nothing.
use Prim.Native.Nat.{ℕ, ◌+◌, ◌-◌, ◌≤◌, ◌<◌, min}
use mathlib.Core.List.{List}
use mathlib.Core.Logic.{◌↔◌}
use mathlib.Core.Bool.{Bool, true, false}
use mathlib.Core.Path.{◌≡◌, refl, sym, ap, ◌∙◌}
use lib.ListN.{length, get_or}
use lib.Dec.{leb, eqb}
use borrow.Author.Tests.{leb-true, le-leb, eq-eqb, ne_eqb, eqb-true}
use native.Mathlib.Omega.{arith}
use Rattle.std.specs.Prelude.{Some}
use Rattle.lists.proofs.Tests.{by_test, clash}
use Rattle.value.specs.Value.{Value, fin, inf, at_most}
use Rattle.value.specs.Stored.{stored, infinite}
use Rattle.rules.specs.Rounds.{rounds, Settled}
use Rattle.turns.specs.Outcome.{filled}
use Rattle.rounds.proofs.Promised.{filled_at}
use Rattle.model.specs.WellFormed as model
use Rattle.syntax.specs.WellFormed as formula
use Rattle.formula.proofs.Trees.{ordered}
use Rattle.runs.proofs.Proper.{proper}
use Rattle.reduction.proofs.Stands.{node_lt}
use Rattle.reduction.proofs.Verdict.{yes_exactly}
use Rattle.settling.specs.declared.Verdict.{Verdict}
use Rattle.questions.specs.Question.{Question, graph_for, root_node}
use Rattle.settling.specs.Answer.{verdict_of}
use Rattle.states.specs.Promise.{Satisfies}

-- a value is 0 exactly where its stored number is, and where it is at most 0
stored_zero : (x : Value) → (stored x ≡ 0) ↔ (x ≡ fin 0)
unfolding stored
stored_zero (fin a) = (λ e. ap fin (omega arith), λ e. let k : a ≡ 0 = cc in omega arith)
stored_zero inf = (λ e. absurd (omega arith), λ e. let k : ◌≡◌ {A = ℕ} 0 1 = cc in absurd (omega arith))

pub zero_test : (x : Value) → at_most x 0 ≡ eqb (stored x) 0
unfolding stored
zero_test (fin a) =
    by_test (leb a 0) (λ e. e ∙ sym (eq-eqb (min a infinite) 0 (omega (arith, leb-true a 0 e))))
    (λ e. e ∙ sym (ne_eqb (min a infinite) 0 (λ k. clash (le-leb a 0 (omega arith)) e)))
zero_test inf = sym (ne_eqb infinite 0 (λ k. omega arith))

test_zero : (x : Value) → (at_most x 0 ≡ true) ↔ (x ≡ fin 0)
test_zero x = (
  λ e. (stored_zero x).0 (eqb-true (stored x) 0 (sym (zero_test x) ∙ e)),
  λ e. zero_test x ∙ eq-eqb (stored x) 0 ((stored_zero x).1 e),
)

-- a verdict is yes exactly where the value is 0
pub yes_zero : (x : Value) → (verdict_of (at_most x 0) ≡ Verdict.Yes) ↔ (x ≡ fin 0)
yes_zero x = (λ e. (test_zero x).0 (is_yes _ e), λ e. ap verdict_of ((test_zero x).1 e))
  where
    is_yes : (b : Bool) → verdict_of b ≡ Verdict.Yes → b ≡ true
    is_yes true e = refl
    is_yes false e = let k : ◌≡◌ {A = ℕ} 0 1 = cc in absurd (omega arith)

-- a verdict that is there
some_same : {x y : Verdict} → Some x ≡ Some y → x ≡ y
some_same e = cc

-- the root row's node of a state is a node
pub root_inside : (q : Question) → 1 ≤ length q.rows → (a : ℕ) → a < q.model.states → root_node q a < (graph_for q).nodes
root_inside q some a l = node_lt q.model q.rows l (omega arith)

module _ (q : Question) (m : model.WellFormed q.model) (f : formula.WellFormed q.model.propositions q.rows) where
  -- in a round that the next leaves unchanged
  at_root : (i : ℕ) → Settled (graph_for q) i → (a : ℕ) → a < q.model.states → (rounds (graph_for q) i (root_node q a) ≡ fin 0) ↔ Satisfies q a
  at_root i settled a l =
      yes_exactly q.model q.rows (proper m) (ordered f) i settled (length q.rows - 1) (omega (arith, f.some_row)) a l

  -- the test behind a verdict
  pub test_when : (i : ℕ) → Settled (graph_for q) i → (a : ℕ) → a < q.model.states
      → (at_most (rounds (graph_for q) i (root_node q a)) 0 ≡ true) ↔ Satisfies q a
  test_when i settled a l =
      let r = at_root i settled a l in
      let t = test_zero (rounds (graph_for q) i (root_node q a)) in
      (λ e. r.0 (t.0 e), λ s. t.1 (r.1 s))

  -- the verdict's yes and no
  pub yes_when : (i : ℕ) → Settled (graph_for q) i → (a : ℕ) → a < q.model.states
      → (Some (verdict_of (at_most (rounds (graph_for q) i (root_node q a)) 0)) ≡ Some Verdict.Yes) ↔ Satisfies q a
  yes_when i settled a l =
      let r = at_root i settled a l in
      let y = yes_zero (rounds (graph_for q) i (root_node q a)) in
      (λ e. r.0 (y.0 (some_same e)), λ s. ap Some (y.1 (r.1 s)))

  pub no_when : (i : ℕ) → Settled (graph_for q) i → (a : ℕ) → a < q.model.states
      → (Some (verdict_of (at_most (rounds (graph_for q) i (root_node q a)) 0)) ≡ Some Verdict.No) ↔ (¬ Satisfies q a)
  no_when i settled a l =
      let t = test_when i settled a l in
      (λ e s. absurd (both _ (some_same e) (t.1 s)), λ n. by_test _ (λ e. absurd (n (t.0 e))) (λ e. ap Some (ap verdict_of e)))
    where
      both : (b : Bool) → verdict_of b ≡ Verdict.No → b ≡ true → ⊥
      both true e t = let k : ◌≡◌ {A = ℕ} 0 1 = cc in omega arith
      both false e t = clash t refl

  -- and all states' in one settled room
  pub all_when : (i : ℕ) (b : List ℕ) → Settled (graph_for q) i → (a : ℕ) → a < q.model.states
      → (get_or (filled (graph_for q) i b) (root_node q 0 + a) 0 ≡ 0) ↔ Satisfies q a
  all_when i b settled a l =
      let e : root_node q 0 + a ≡ root_node q a = omega arith in
      let r = at_root i settled a l in
      let z = stored_zero (rounds (graph_for q) i (root_node q a)) in
      let at = filled_at (graph_for q) i b (root_node q a) (root_inside q f.some_row a l) in
      rw (e, at) (λ k. r.0 (z.0 k), λ s. z.1 (r.1 s))
