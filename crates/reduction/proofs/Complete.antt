-- Where a formula holds, an assignment that obeys the rules is 0. By induction on the row; no count of rounds plays a part. Assumes nothing.
use Prim.Native.Nat.{ℕ, suc, zero, ◌+◌, ◌*◌, ◌<◌}
use native.Mathlib.Omega.{arith}
use native.Mathlib.Nat.{le_refl, not-suc-le-zero}
use lib.ListN.{length}
use mathlib.Core.Path.{◌≡◌, refl}
use mathlib.Core.Logic.{inl, inr}
use mathlib.Core.Bool.{true, false}
use mathlib.Core.Option.{some}
use mathlib.Core.List.Memᴰ
use mathlib.Core.List.{List, [], ◌∷◌, map}
use Rattle.lists.specs.Lists.{◌∈◌}
use Rattle.lists.proofs.Tests.{clash}
use Rattle.lists.proofs.Places.{first, second, element}
use Rattle.lists.proofs.Each.{each_none, each_more, each_map}
use Rattle.value.specs.declared.Bound.{Bound}
use Rattle.value.specs.Value.{Value, plus, meets, ◌≼◌}
use Rattle.value.proofs.Values.{plus-≼}
use Rattle.value.proofs.Peak.{peak}
use Rattle.rules.specs.Graph.{Target}
use Rattle.rules.specs.Rounds.{Assignment, Obeys}
use Rattle.model.specs.Model.{Model}
use Rattle.syntax.specs.declared.Quantifier.{Quantifier}
use Rattle.syntax.specs.declared.Quantifier.TheVariants.{Some, Every}
use Rattle.syntax.specs.declared.Row.{Row}
use Rattle.syntax.specs.declared.Row.TheVariants.{True, False, Proposition, Negation, And, Or, Next, Until}
use Rattle.syntax.specs.Formula.{grow, formula_of}
use Rattle.syntax.specs.Rows.{operands}
use Rattle.syntax.specs.WellFormed.{RowAt}
use Rattle.formula.proofs.Trees.{Ordered, formula_of_row}
use Rattle.runs.specs.Systems.{Leads, system_of}
use Rattle.runs.specs.Sat as sat
use Rattle.runs.specs.Sat.{Sat}
use Rattle.runs.proofs.Proper.{Proper}
use Rattle.runs.proofs.Strategies.{Choice, go, stop, Strategy, price, onward, stops, first_step}
use Rattle.runs.proofs.Walks.{Climbs, E-value, A-value}
use Rattle.reduction.specs.Built.{to, out, near, helper_edges, helper_at, graph_of}
use Rattle.reduction.proofs.Out.{any-∈, leads_out, out_leads, step_near, near_step}
use Rattle.reduction.proofs.Stands.{node_lt, helper_lt}
use Rattle.reduction.proofs.Blocks.{Cheap, Why, by_limit, by_edge, row_why, helper_why}
use Rattle.reduction.proofs.Sound.{Holds}

module _ (M : Model) (rows : List Row) (ok : Proper M) (order : Ordered rows) (x : Assignment) (obeys : Obeys (graph_of M rows) x) where
  abbrev s : ℕ
  s = M.states

  -- x is 0 at the nodes of row l where the row's formula holds
  abbrev RowZero : ℕ → Type 0
  RowZero l = (a : ℕ) → a < s → Holds M rows l a → x (a + s * l) ≼ 0

  -- so is the sum of a target at weight 0
  zero_sum : (d l : ℕ) → RowZero l → (a : ℕ) → a < s → Holds M rows l a → plus 0 (x (a + s * l)) ≼ d
  zero_sum d l op a b h = plus-≼ 0 (x (a + s * l)) (op a b h) (omega arith)

  module _ (r : ℕ) (j k : ℕ) (b : Bound) (left : RowZero j) (right : RowZero k) where
    abbrev H : ℕ
    H = helper_at rows r

    -- the helper's value
    abbrev value : ℕ → Value
    value c = x (c + s * H)

    -- it is at most d where a hyperedge is
    value-≼ : (q : Quantifier) → RowAt rows r (Until q j k b) → {a d : ℕ} → a < s → (ts : List Target) → ts ∈ helper_edges M (Until q j k b) H a
        → Cheap x d ts → value a ≼ d
    value-≼ q at {a} l ts m c = rw (← obeys (a + s * H) (node_lt M rows l (helper_lt M rows r at))) (helper_why M rows x r l q j k b at ts m c)

    -- it is 0 where right holds
    start : (q : Quantifier) → RowAt rows r (Until q j k b) → (a : ℕ) → a < s → Holds M rows k a → value a ≼ 0
    start q at a l h = value-≼ q at l (to 0 (a + s * k) ∷ []) first (each_more (zero_sum 0 k right a l h) each_none)

    -- where left holds it climbs by no more than the weight. E: along each step
    E-climb : RowAt rows r (Until Some j k b) → (a w c : ℕ) → a < s → Leads (system_of M) a w c → Climbs (Holds M rows j) value a w c
    E-climb at a w c l m h e p =
        let d = w + e in
        value-≼ Some at l (to 0 (a + s * j) ∷ to w (c + s * H) ∷ [])
        (Memᴰ.tail (Memᴰ.map (λ (t : Target). to 0 (a + s * j) ∷ to t.weight (t.node + s * H) ∷ []) (leads_out M a m)))
        (each_more (zero_sum d j left a l h) (each_more (plus-≼ w (value c) p (le_refl d)) each_none))

    -- A: along a step with the greatest weight plus helper value
    abbrev top : {a : ℕ} → Choice (system_of M) a → Choice (system_of M) a
    top {a} (go w c m) =
        let p = peak (λ (t : Target). plus t.weight (value t.node)) (leads_out M a m) in
        go p.top.weight p.top.node (out_leads M a p.there)
    top (stop d) = stop d

    abbrev top_step : Strategy (system_of M)
    top_step a = top (first_step M a)

    A-climb : RowAt rows r (Until Every j k b) → {a : ℕ} → a < s → (m : Choice (system_of M) a) → stops (top m) ≡ false
        → Climbs (Holds M rows j) value a (price (top m)) (onward (top m))
    A-climb at {a} l (go w c m) on h e v =
        let p = peak (λ (t : Target). plus t.weight (value t.node)) (leads_out M a m) in
        let d = p.top.weight + e in
        value-≼ Every at l (to 0 (a + s * j) ∷ map (λ (t : Target). to t.weight (t.node + s * H)) (out M a))
        (Memᴰ.tail (any-∈ p.there first))
        (each_more (zero_sum d j left a l h) (each_map (λ (t : Target). to t.weight (t.node + s * H)) (out M a)
        (λ t n. (p.above.at t n).carries (plus-≼ p.top.weight (value p.top.node) v (le_refl d)))))
    A-climb at l (stop d) on h e v = clash refl on

    -- where the until holds, the helper's value is within the bound
    helper_complete : (q : Quantifier) → RowAt rows r (Until q j k b) → (a : ℕ) → a < s → sat.Until (system_of M) q (Holds M rows j) (Holds M rows k) b a
        → meets b (value a) ≡ true
    helper_complete Some at a l u = E-value M ok (Holds M rows j) (Holds M rows k) value (start Some at) b (E-climb at) a l u
    helper_complete Every at a l u =
        A-value M ok (Holds M rows j) (Holds M rows k) value (start Every at) b top_step (λ a l. A-climb at l (first_step M a)) a l u

  -- where a row's formula holds there is a reason for 0
  row_complete : (r : ℕ) (row : Row) → RowAt rows r row → ((l : ℕ) → l ∈ operands row → RowZero l) → (a : ℕ) (l : a < s)
      → Sat (system_of M) (grow (some row) (formula_of rows)) a → Why M rows x r l row 0
  row_complete r True at op a l h = by_edge [] first each_none
  row_complete r False at op a l h = absurd h
  row_complete r (Proposition i) at op a l h = by_edge [] (rw h first) each_none
  row_complete r (Negation i) at op a l h = by_edge [] (rw h first) each_none
  row_complete r (And j k) at op a l h =
      by_edge (to 0 (a + s * j) ∷ to 0 (a + s * k) ∷ []) first
      (each_more (zero_sum 0 j (op j first) a l h.0) (each_more (zero_sum 0 k (op k second) a l h.1) each_none))
  row_complete r (Or j k) at op a l (inl h) = by_edge (to 0 (a + s * j) ∷ []) first (each_more (zero_sum 0 j (op j first) a l h) each_none)
  row_complete r (Or j k) at op a l (inr h) = by_edge (to 0 (a + s * k) ∷ []) second (each_more (zero_sum 0 k (op k second) a l h) each_none)
  row_complete r (Next Some A j b) at op a l (w, k, c, m, t, i, h) =
      by_edge (to 0 (c + s * j) ∷ []) (Memᴰ.map (λ (t : Target). to 0 (t.node + s * j) ∷ []) (step_near M a A b m t i))
      (each_more (zero_sum 0 j (op j first) c (ok.target (k, m)) h) each_none)
  row_complete r (Next Every A j b) at op a l h =
      by_edge (map (λ (t : Target). to 0 (t.node + s * j)) (near M A b a)) first
      (each_map (λ (t : Target). to 0 (t.node + s * j)) (near M A b a)
      (λ t n. let u = near_step M a A b n in
      zero_sum 0 j (op j first) t.node (ok.target (u.action, u.step)) (h t.weight u.action t.node u.step u.allowed u.near)))
  row_complete r (Until q j k b) at op a l h = by_limit q j k b refl (helper_complete r j k b (op j first) (op k second) q at a l h)

  from_rows : (n r : ℕ) → r < n → r < length rows → RowZero r
  from_rows zero r p h a l t = absurd (not-suc-le-zero p)
  from_rows (suc n) r p h a l t =
      let (row, at) = element rows r h in
      rw (← obeys (a + s * r) (node_lt M rows l (omega arith)))
      (row_why M rows x r l at
      (row_complete r row at (λ j m. let e = order.earlier r at m in from_rows n j (omega arith) (omega arith)) a l
      (rw (formula_of_row rows order r at) at t)))

  pub complete : (r : ℕ) → r < length rows → (a : ℕ) → a < M.states → Sat (system_of M) (formula_of rows r) a → x (a + M.states * r) ≼ 0
  complete r h = from_rows (suc r) r (omega arith) h
