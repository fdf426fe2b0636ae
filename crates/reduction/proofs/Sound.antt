-- A number in any round is no empty promise: a row's node has one only where the formula holds, and a helper's node has d only where
-- the until holds within d. By induction on the round. Assumes nothing.
use Prim.Native.Nat.{ℕ, suc, zero, ◌+◌, ◌-◌, ◌*◌, ◌≤◌, ◌<◌}
use native.Mathlib.Omega.{arith}
use borrow.Author.Tests.{not-true}
use lib.ListN.{length}
use mathlib.Core.Path.{◌≡◌, refl}
use mathlib.Core.Logic.{inl, inr}
use mathlib.Core.Bool.{Bool, true, false, cond, not}
use mathlib.Core.Option.{some}
use mathlib.Core.List.Memᴰ
use mathlib.Core.List.{List, [], ◌∷◌}
use Rattle.lists.specs.Lists.{◌∈◌}
use Rattle.lists.proofs.Places.{first, second, place_lt, element}
use Rattle.value.specs.declared.Bound.{Bound}
use Rattle.value.specs.declared.Bound.TheVariants.{Within}
use Rattle.value.specs.Value.{◌≼◌}
use Rattle.value.proofs.Values.{≼-plus, ≼-inf, meets_inside}
use Rattle.rules.specs.Graph.{Target}
use Rattle.rules.specs.Rounds.{Assignment, round, rounds}
use Rattle.model.specs.Model.{Model, holds}
use Rattle.syntax.specs.declared.Quantifier.{Quantifier}
use Rattle.syntax.specs.declared.Quantifier.TheVariants.{Some, Every}
use Rattle.syntax.specs.declared.Row.{Row}
use Rattle.syntax.specs.declared.Row.TheVariants.{True, False, Proposition, Negation, And, Or, Next, Until}
use Rattle.syntax.specs.Formula.{grow, formula_of}
use Rattle.syntax.specs.Rows.{operands}
use Rattle.syntax.specs.WellFormed.{RowAt}
use Rattle.formula.proofs.Trees.{Ordered, formula_of_row}
use Rattle.runs.specs.Systems.{System, Leads, system_of}
use Rattle.runs.specs.Sat as sat
use Rattle.runs.specs.Sat.{Sat}
use Rattle.runs.proofs.Proper.{Proper}
use Rattle.runs.proofs.Untils.{E-later, A-later, weaken}
use Rattle.runs.proofs.Walks.{until_now}
use Rattle.reduction.specs.Built.{to, out, near, row_edges, step_edges, helper_edges, helper_at, graph_of}
use Rattle.reduction.proofs.Out.{∈-any, leads_out, out_leads, step_near, near_step}
use Rattle.reduction.proofs.Blocks.{Cheap, Why, by_limit, by_edge, why_row, why_helper}

-- a hyperedge that stands only where a test passes
passed : (t : Bool) {ts : List Target} → ts ∈ cond t ([] ∷ []) [] → t ≡ true
passed true m = refl
passed false m = elim m [ ]

module _ (M : Model) (rows : List Row) where
  abbrev s : ℕ
  s = M.states

  abbrev S : System
  S = system_of M

  -- the states that satisfy row l
  abbrev pub Holds : ℕ → ℕ → Type 0
  Holds l a = Sat S (formula_of rows l) a

  -- y has a number at the nodes of row l only where the row's formula holds
  abbrev pub RowSound : Assignment → ℕ → Type 0
  RowSound y l = (a : ℕ) → a < s → (d : ℕ) → y (a + s * l) ≼ d → Holds l a

  -- y has d at the helper nodes of row r only where the until of rows j and k holds within d
  abbrev pub HelperSound : Assignment → ℕ → Quantifier → ℕ → ℕ → Type 0
  HelperSound y r q j k = (a : ℕ) → a < s → (d : ℕ) → y (a + s * helper_at rows r) ≼ d → sat.Until S q (Holds j) (Holds k) (Within d) a

  module _ (ok : Proper M) (y : Assignment) where
    -- a row's target at weight 0
    target_sound : (l : ℕ) → RowSound y l → {c d : ℕ} {ts : List Target} → c < s → Cheap y d ts → to 0 (c + s * l) ∈ ts → Holds l c
    target_sound l op {c} {d} b p m = op c b (d - 0) (≼-plus 0 (y (c + s * l)) (p.at (to 0 (c + s * l)) m)).1

    -- a hyperedge of a row's node has a number: its formula holds
    edge_sound : (row : Row) → ((l : ℕ) → l ∈ operands row → RowSound y l) → (a : ℕ) → a < s → (d : ℕ) (ts : List Target)
        → ts ∈ row_edges M row a → Cheap y d ts → Sat S (grow (some row) (formula_of rows)) a
    edge_sound True op a l d ts m p = tt
    edge_sound False op a l d ts m p = elim m [ ]
    edge_sound (Proposition i) op a l d ts m p = passed (holds M i a) m
    edge_sound (Negation i) op a l d ts m p = not-true (holds M i a) (passed (not (holds M i a)) m)
    edge_sound (And j k) op a l d ts m p =
        let p = rw (Memᴰ.eq_of_singleton m) at p in
        (target_sound j (op j first) l p first, target_sound k (op k second) l p second)
    edge_sound (Or j k) op a l d ts (Memᴰ.head e) p = inl (target_sound j (op j first) l (rw e at p) first)
    edge_sound (Or j k) op a l d ts (Memᴰ.tail m) p = inr (target_sound k (op k second) l (rw (Memᴰ.eq_of_singleton m) at p) first)
    edge_sound (Next Some A j b) op a l d ts m p =
        let (t, n, e) = Memᴰ.of_map (λ (t : Target). to 0 (t.node + s * j) ∷ []) (near M A b a) m in
        let u = near_step M a A b n in
        (t.weight, u.action, t.node, u.step, u.allowed, u.near, target_sound j (op j first) (ok.target (u.action, u.step)) (rw (← e) at p) first)
    edge_sound (Next Every A j b) op a l d ts m p = λ w k c h t i.
        target_sound j (op j first) (ok.target (k, h)) (rw (Memᴰ.eq_of_singleton m) at p)
        (Memᴰ.map (λ (t : Target). to 0 (t.node + s * j)) (step_near M a A b h t i))
    edge_sound (Until q j k b) op a l d ts m p = elim m [ ]

    module _ (r j k : ℕ) where
      abbrev H : ℕ
      H = helper_at rows r

      -- a helper's target at the weight of a transition
      next_sound : (q : Quantifier) → HelperSound y r q j k → {a w c d : ℕ} {ts : List Target} → Leads S a w c → Cheap y d ts
          → to w (c + s * H) ∈ ts → (e : ℕ) × sat.Until S q (Holds j) (Holds k) (Within e) c × (w + e ≤ d)
      next_sound q hp {w = w} {c} {d} h p m =
          let u = ≼-plus w (y (c + s * H)) (p.at (to w (c + s * H)) m) in
          (d - w, hp c (ok.target h) (d - w) u.1, omega arith)

      -- a hyperedge of a helper's node is at most d: the until holds within d
      step_sound : (q : Quantifier) → RowSound y j → HelperSound y r q j k → (a : ℕ) → a < s → (d : ℕ) (ts : List Target)
          → ts ∈ step_edges M q j H a → Cheap y d ts → sat.Until S q (Holds j) (Holds k) (Within d) a
      step_sound Some left hp a l d ts m p =
          let (t, n, e) = Memᴰ.of_map (λ (t : Target). to 0 (a + s * j) ∷ to t.weight (t.node + s * H) ∷ []) (out M a) m in
          let p = rw (← e) at p in
          let h = out_leads M a n in
          let (i, u, fits) = next_sound Some hp h p second in
          E-later S (Holds j) (Holds k) h (target_sound j left l p first) u fits
      step_sound Every left hp a l d ts m p =
          let (t, n, e) = ∈-any (out M a) m in
          let cheap = rw (Memᴰ.eq_of_singleton e) at p in
          A-later S (Holds j) (Holds k) (target_sound j left l cheap first) (λ dead. dead t.weight t.node (out_leads M a n))
          (λ w c h. next_sound Every hp h cheap (Memᴰ.tail (Memᴰ.map (λ (t : Target). to t.weight (t.node + s * H)) (leads_out M a h))))

      helper_sound : (q : Quantifier) (b : Bound) → RowSound y j → RowSound y k → HelperSound y r q j k → (a : ℕ) → a < s → (d : ℕ) (ts : List Target)
          → ts ∈ helper_edges M (Until q j k b) H a → Cheap y d ts → sat.Until S q (Holds j) (Holds k) (Within d) a
      helper_sound q b left right hp a l d ts (Memᴰ.head e) p =
          until_now M ok (Holds j) (Holds k) q (Within d) a l (target_sound k right l (rw e at p) first)
      helper_sound q b left right hp a l d ts (Memᴰ.tail m) p = step_sound q left hp a l d ts m p

  -- what an assignment says of rows and helpers
  pub record Sound (y : Assignment) : Type 0 where
    pub row : (r : ℕ) → r < length rows → RowSound y r
    pub helper : (r : ℕ) (q : Quantifier) (j k : ℕ) (b : Bound) → RowAt rows r (Until q j k b) → HelperSound y r q j k

  module _ (ok : Proper M) (order : Ordered rows) where
    -- a round keeps it
    sound_round : (y : Assignment) → Sound y → Sound (round (graph_of M rows) y)
    sound_round y ih = record { row = at_row; helper = at_helper }
      where
        operand : (r : ℕ) {row : Row} → RowAt rows r row → (l : ℕ) → l ∈ operands row → RowSound y l
        operand r at l m = let h = place_lt rows r at in let e = order.earlier r at m in ih.row l (omega arith)

        at_helper : (r : ℕ) (q : Quantifier) (j k : ℕ) (b : Bound) → RowAt rows r (Until q j k b) → HelperSound (round (graph_of M rows) y) r q j k
        at_helper r q j k b at a l d p =
            let (ts, m, c) = why_helper M rows y r l q j k b at p in
            helper_sound ok y r j k q b (operand r at j first) (operand r at k second) (ih.helper r q j k b at) a l d ts m c

        by_reason : (r a : ℕ) (l : a < s) (d : ℕ) {row : Row} → RowAt rows r row → Why M rows y r l row d → Sat S (grow (some row) (formula_of rows)) a
        by_reason r a l d at (by_limit q j k b same e) =
            let (d, i, p) = meets_inside b (y (a + s * helper_at rows r)) e in
            rw same (weaken S (Holds j) (Holds k) q b a d i (ih.helper r q j k b (rw same at at) a l d p))
        by_reason r a l d {row} at (by_edge ts m c) = edge_sound ok y row (operand r at) a l d ts m c

        at_row : (r : ℕ) → r < length rows → RowSound (round (graph_of M rows) y) r
        at_row r h a l d p =
            let (row, at) = element rows r h in
            rw (formula_of_row rows order r at) (by_reason r a l d at (why_row M rows y r l at p))

    -- so every round has it
    pub sound : (i : ℕ) → Sound (rounds (graph_of M rows) i)
    unfolding rounds
    sound zero = record { row = λ r h a l d p. ≼-inf p; helper = λ r q j k b at a l d p. ≼-inf p }
    sound (suc i) = sound_round (rounds (graph_of M rows) i) (sound i)
