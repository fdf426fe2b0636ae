-- The built graph is one that a reader takes: sources rise, every node that is named exists, weights and bounds can be said.
-- Assumes nothing.
use Prim.Native.Nat.{ℕ, suc, zero, ◌+◌, ◌*◌, ◌≤◌, ◌<◌, ◌^◌}
use native.Mathlib.Omega.{arith}
use native.Mathlib.Nat.{le_refl}
use lib.ListN.{length}
use mathlib.Core.Path.{◌≡◌, refl, subst}
use mathlib.Core.Logic.{◌⊎◌, inl, inr}
use mathlib.Core.List.{List, [], ◌∷◌, map, map-append}
use Rattle.lists.specs.Lists.{◌∈◌}
use Rattle.lists.specs.Making.{span}
use Rattle.lists.specs.Order.{Rising}
use Rattle.lists.proofs.Making.{∈-keep}
use Rattle.lists.proofs.Places.{first, second, place_lt, place-∈, ∈-place}
use Rattle.lists.proofs.Each.{Each, each_none, each_more}
use Rattle.lists.proofs.Order.{Between, done, next, between_append, between_rising}
use Rattle.rules.specs.Graph.{Hyper, Target, Closed}
use Rattle.graph.specs.WellFormed as graph
use Rattle.model.specs.Model.{Model}
use Rattle.model.specs.WellFormed as model
use Rattle.syntax.specs.declared.Row.{Row}
use Rattle.syntax.specs.Rows.{operands}
use Rattle.syntax.specs.WellFormed as formula
use Rattle.formula.proofs.Trees.{Ordered, ordered}
use Rattle.runs.specs.Systems.{Leads, system_of}
use Rattle.runs.proofs.Proper.{Proper, proper}
use Rattle.reduction.specs.Built.{to, step_edges, helper_edges, row_covers, is_until, untils, layout, hyper, cover, graph_of, Fits}
use Rattle.reduction.proofs.Targets.{row_each, step_each}
use Rattle.reduction.proofs.Stands.{Stands, of_until, OfRow, OfHelper, hyper_stands, cover_stands, edges, places, node_lt, helper_lt}

-- ---- sources rise: those of a node, of a row, of rows

module _ {B E : Type 0} (mk : ℕ → B → E) (source : E → ℕ) (sourced : (v : ℕ) (b : B) → source (mk v b) ≡ v) where
  node_between : (v : ℕ) (bs : List B) → Between v v (map source (map (mk v) bs))
  node_between v [] = done (le_refl v)
  node_between v (b ∷ bs) = rw (sourced v b) (next (le_refl v) (node_between v bs))

  states_between : (s r : ℕ) (f : ℕ → List B) (a n : ℕ) → Between (a + n + s * r) (a + s * r) (map source (span (λ a. map (mk (a + s * r)) (f a)) a n))
  unfolding span
  states_between s r f a zero = let h : a + s * r ≤ a + 0 + s * r = omega arith in done h
  states_between s r f a (suc n) =
      rw (map-append source (map (mk (a + s * r)) (f a)))
      (between_append (le_refl (a + s * r)) (node_between (a + s * r) (f a)) (omega arith) (states_between s r f (suc a) n) (omega arith))

  rows_between : (s : ℕ) (f : Row → ℕ → ℕ → List B) (r : ℕ) (rows : List Row) → Between (s * (r + length rows)) (s * r) (map source (layout mk s f r rows))
  unfolding layout
  rows_between s f r [] = let h : s * r ≤ s * (r + 0) = omega arith in done h
  rows_between s f r (row ∷ rows) =
      rw (map-append source (span (λ a. map (mk (a + s * r)) (f row r a)) 0 s))
      (between_append (omega arith) (states_between s r (λ a. f row r a) 0 s) (omega arith) (rows_between s f (suc r) rows) (omega arith))

module _ (M : Model) (rows : List Row) where
  abbrev s : ℕ
  s = M.states

  pub hypers_rise : Rising (map (λ h. h.source) (graph_of M rows).hypers)
  unfolding graph_of
  hypers_rise =
      rw (map-append (λ (h : Hyper). h.source) (layout hyper s (edges M rows) 0 rows))
      (between_rising (le_refl 0)
      (between_append (omega arith) (rows_between hyper (λ h. h.source) (λ v b. refl) s (edges M rows) 0 rows) (omega arith)
      (rows_between hyper (λ h. h.source) (λ v b. refl) s (helper_edges M) (length rows) (untils rows)) (le_refl (s * places M rows))))

  pub covers_rise : Rising (map (λ c. c.source) (graph_of M rows).covers)
  unfolding graph_of
  covers_rise = between_rising (omega arith) (rows_between cover (λ c. c.source) (λ v b. refl) s (row_covers M rows) 0 rows)

  -- ---- targets are made of a state's row at weight 0, or of the place of a state that a transition leads to, at its weight

  data Made : Target → Type 0 where
    still : {a r : ℕ} → a < s → r < places M rows → Made (to 0 (a + s * r))
    moved : {a w c r : ℕ} → Leads (system_of M) a w c → r < places M rows → Made (to w (c + s * r))

  module _ (ok : Proper M) where
    module _ (order : Ordered rows) where
      operand_lt : {row : Row} → row ∈ rows → (l : ℕ) → l ∈ operands row → l < places M rows
      operand_lt m l n = let (i, at) = ∈-place m in let h = order.earlier i at n in let e = place_lt rows i at in omega arith

      -- a hyperedge starts at a node, and its targets are made
      abbrev Fine : Hyper → Type 0
      Fine h = (h.source < (graph_of M rows).nodes) × Each Made h.targets

      fine : {h : Hyper} → h ∈ (graph_of M rows).hypers → Fine h
      fine {h} m = go (hyper_stands M rows m)
        where
          from : {f : Row → ℕ → ℕ → List (List Target)} {k : ℕ} {rs : List Row} (z : Stands hyper s f k rs h)
              → z.number < places M rows → Each Made z.load → Fine h
          from z p e = subst (λ (h : Hyper). Fine h) z.made (node_lt M rows z.below p, e)

          go : OfRow M rows h ⊎ OfHelper M rows h → Fine h
          go (inl z) =
              let e = place_lt rows z.place z.at in
              from z (omega arith)
              ((row_each M ok Made z.row (λ l m c k. still k (operand_lt (place-∈ rows z.place z.at) l m)) z.below).at z.load z.there)
          go (inr z) =
              let e = place_lt (untils rows) z.place z.at in
              let p : z.number < places M rows = omega arith in
              let u = of_until z.row (λ q j k b. (to 0 (z.state + s * k) ∷ []) ∷ step_edges M q j z.number z.state) z.there in
              let op = operand_lt (rw u.same at (∈-keep is_until rows (place-∈ (untils rows) z.place z.at)).0) in
              let right = each_more (still z.below (op u.right second)) each_none in
              from z p
              ((each_more right (step_each M ok Made u.quantifier u.left z.number (still z.below (op u.left first)) (λ w c k. moved k p))).at z.load u.there)

      made_lt : {t : Target} → Made t → t.node < (graph_of M rows).nodes
      made_lt (still l p) = node_lt M rows l p
      made_lt (moved m p) = node_lt M rows (ok.target m) p

      -- every node that an edge names exists
      pub built_closed : Closed (graph_of M rows)
      built_closed = record {
        hyper_source = λ m. (fine m).0;
        hyper = λ m n. made_lt ((fine m).1.at _ n);
        cover_source = λ m.
            let z = cover_stands M rows m in
            let p = place_lt rows z.place z.at in
            rw z.made (node_lt M rows z.below (omega arith));
        cover = λ m. let z = cover_stands M rows m in rw z.made (node_lt M rows z.below (helper_lt M rows z.place z.at));
      }

-- the graph of a model and rows that readers accept is well-formed where it fits
pub built_well_formed : {M : Model} {p : ℕ} {rows : List Row} → model.WellFormed M → formula.WellFormed p rows → Fits (graph_of M rows)
    → graph.WellFormed (graph_of M rows)
built_well_formed {M} {p} {rows} m r fits = record {
  some_node = let h : 0 < places M rows = omega arith in let n = node_lt M rows m.some_state h in omega arith;
  nodes_fit = fits.nodes_fit;
  hypers_fit = fits.hypers_fit;
  targets_fit = fits.targets_fit;
  each_fits = fits.each_fits;
  covers_fit = fits.covers_fit;
  hypers_ordered = hypers_rise M rows;
  covers_ordered = covers_rise M rows;
  closed = built_closed M rows (proper m) (ordered r);
  weights_fit = λ h n. light ((fine M rows (proper m) (ordered r) h).1.at _ n);
  bounds_fit = λ c. let z = cover_stands M rows c in rw z.made (r.sayable (place-∈ rows z.place z.at));
}
  where
    light : {t : Target} → Made M rows t → t.weight < 2 ^ 32
    light (still l p) = omega arith
    light (moved (k, t) p) = m.weights_fit t
