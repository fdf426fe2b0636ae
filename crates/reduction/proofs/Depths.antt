-- The built graph has no cycle through a cover edge: the node of row r has depth 2r + 1 and its helper 2r. No hyperedge leads deeper,
-- and each cover edge leads from a row's node to its helper. Assumes nothing.
use Prim.Native.Nat.{ℕ, suc, zero, ◌+◌, ◌*◌, ◌-◌, ◌/◌, ◌≤◌, ◌<◌}
use native.Mathlib.Omega.{arith}
use native.Mathlib.Nat.{add-mul-div_left, div-eq_of_lt}
use lib.Dec.{ltb}
use lib.ListN.{length, take}
use borrow.Author.Tests.{lt-ltb, le-ltb}
use mathlib.Core.Path.{◌≡◌, refl, ap, subst}
use mathlib.Core.Logic.{◌⊎◌, inl, inr}
use mathlib.Core.Bool.{Bool, true, false, cond}
use mathlib.Core.List.{List, [], ◌∷◌}
use Rattle.lists.specs.Lists.{◌∈◌}
use Rattle.lists.specs.Making.{keep}
use Rattle.lists.proofs.Places.{first, second, place_lt}
use Rattle.lists.proofs.Each.{Each, each_none, each_more}
use Rattle.rules.specs.Graph.{Hyper}
use Rattle.rules.specs.Count.{count}
use Rattle.rules.specs.Walks.{CoverCycle}
use Rattle.rules.specs.Depths.{Layered}
use Rattle.rules.proofs.Walks.{layered_free}
use Rattle.rules.proofs.Cycles.{free_count}
use Rattle.model.specs.Model.{Model}
use Rattle.model.specs.WellFormed as model
use Rattle.syntax.specs.declared.Row.{Row}
use Rattle.syntax.specs.Rows.{operands}
use Rattle.syntax.specs.WellFormed as formula
use Rattle.syntax.specs.WellFormed.{RowAt}
use Rattle.formula.proofs.Trees.{Ordered, ordered}
use Rattle.runs.proofs.Proper.{Proper, proper}
use Rattle.reduction.specs.Built.{to, step_edges, is_until, untils, graph_of}
use Rattle.reduction.proofs.Targets.{row_each, step_each}
use Rattle.reduction.proofs.Stands.{of_until, OfRow, OfHelper, hyper_stands, cover_stands}
use Rattle.reduction.proofs.Built.{built_closed}

-- ---- the place of the j-th until row among all rows

-- 0, or one more than f of the number before
abbrev here_or : ℕ → (ℕ → ℕ) → ℕ
here_or zero f = 0
here_or (suc j) f = suc (f j)

until_row : List Row → ℕ → ℕ
until_row [] j = 0
until_row (row ∷ rows) j = cond (is_until row) (here_or j (λ i. until_row rows i)) (suc (until_row rows j))

-- an until row stands behind as many until rows
until_row_lem : (rows : List Row) (r : ℕ) {row : Row} → RowAt rows r row → is_until row ≡ true → until_row rows (length (untils (take r rows))) ≡ r
unfolding until_row keep
until_row_lem [] r q u = let z : ◌≡◌ {A = ℕ} 0 1 = cc in absurd (omega arith)
until_row_lem (row₀ ∷ rows) zero {row} q u = let e : row₀ ≡ row = cc in rw (e, u)
until_row_lem (row₀ ∷ rows) (suc r) q u = go (is_until row₀) (until_row_lem rows r q u)
  where
    go : (t : Bool) → until_row rows (length (untils (take r rows))) ≡ r
        → cond t (here_or (length (cond t (row₀ ∷ untils (take r rows)) (untils (take r rows)))) (λ i. until_row rows i))
        (suc (until_row rows (length (cond t (row₀ ∷ untils (take r rows)) (untils (take r rows))))))
        ≡ suc r
    go true h = ap suc h
    go false h = ap suc h

-- what stands among the until rows stands there among all rows
row_of_until : (rows : List Row) (j : ℕ) {row : Row} → RowAt (untils rows) j row → RowAt rows (until_row rows j) row
unfolding until_row keep
row_of_until [] j q = let z : ◌≡◌ {A = ℕ} 0 1 = cc in absurd (omega arith)
row_of_until (row₀ ∷ rows) j {row} q = go (is_until row₀) j q (λ j q. row_of_until rows j q)
  where
    go : (t : Bool) (j : ℕ) → RowAt (cond t (row₀ ∷ untils rows) (untils rows)) j row
        → ((j : ℕ) → RowAt (untils rows) j row → RowAt rows (until_row rows j) row)
        → RowAt (row₀ ∷ rows) (cond t (here_or j (λ i. until_row rows i)) (suc (until_row rows j))) row
    go true zero q rest = q
    go true (suc j) q rest = rest j q
    go false j q rest = rest j q

-- ---- depths

-- of a place: 2r + 1 for row r, 2r for the helper of row r
place_depth : List Row → ℕ → ℕ
place_depth rows p = cond (ltb p (length rows)) (2 * p + 1) (2 * until_row rows (p - length rows))

module _ (M : Model) (rows : List Row) where
  abbrev s : ℕ
  s = M.states

  depth : ℕ → ℕ
  depth v = place_depth rows (v / s)

  node_place : (a r : ℕ) → a < s → (a + s * r) / s ≡ r
  node_place a r l = let p : 0 < s = omega arith in rw (add-mul-div_left a r p, div-eq_of_lt l) (omega arith)

  row_depth : {a : ℕ} (r : ℕ) → a < s → r < length rows → depth (a + s * r) ≡ 2 * r + 1
  unfolding depth place_depth
  row_depth {a} r l h = rw (node_place a r l, lt-ltb r (length rows) h)

  helper_depth : {a : ℕ} (j : ℕ) → a < s → depth (a + s * (length rows + j)) ≡ 2 * until_row rows j
  unfolding depth place_depth
  helper_depth {a} j l =
      let e : length rows + j - length rows ≡ j = omega arith in
      rw (node_place a (length rows + j) l, le-ltb (length rows + j) (length rows) (omega arith), e)

  module _ (ok : Proper M) (order : Ordered rows) where
    -- an operand of row r lies less deep than both
    operand_depth : (r l : ℕ) {c : ℕ} {row : Row} → RowAt rows r row → l ∈ operands row → c < s → depth (c + s * l) < 2 * r
    operand_depth r l at m k =
        let h = order.earlier r at m in let p = place_lt rows r at in rw (row_depth l k (omega arith)) (omega arith)

    abbrev Falls : Hyper → Type 0
    Falls h = Each (λ t. depth t.node ≤ depth h.source) h.targets

    hyper_falls : {h : Hyper} → h ∈ (graph_of M rows).hypers → Falls h
    hyper_falls {h} m = go (hyper_stands M rows m)
      where
        go : OfRow M rows h ⊎ OfHelper M rows h → Falls h
        go (inl z) =
            let l = place_lt rows z.place z.at in
            let e : z.number ≡ z.place = omega arith in
            let d : depth (z.state + s * z.number) ≡ 2 * z.place + 1 = rw e (row_depth z.place z.below l) in
            subst (λ (h : Hyper). Falls h) z.made
            ((row_each M ok (λ t. depth t.node ≤ depth (z.state + s * z.number)) z.row
            (λ j m c k. let p = operand_depth z.place j z.at m k in omega arith) z.below).at z.load z.there)
        go (inr z) =
            let d : depth (z.state + s * z.number) ≡ 2 * until_row rows z.place = rw z.spot (helper_depth z.place z.below) in
            let u = of_until z.row (λ q j k b. (to 0 (z.state + s * k) ∷ []) ∷ step_edges M q j z.number z.state) z.there in
            let at = rw u.same at (row_of_until rows z.place z.at) in
            let p = operand_depth (until_row rows z.place) u.left at first z.below in
            let q = operand_depth (until_row rows z.place) u.right at second z.below in
            subst (λ (h : Hyper). Falls h) z.made
            ((each_more (each_more (omega arith) each_none)
            (step_each M ok (λ t. depth t.node ≤ depth (z.state + s * z.number)) u.quantifier u.left z.number (omega arith)
            (λ w c k. let e : depth (c + s * z.number) ≡ 2 * until_row rows z.place = rw z.spot (helper_depth z.place (ok.target k)) in omega arith))).at z.load u.there)

    built_layered : Layered (graph_of M rows) depth
    built_layered = record {
      hyper = λ m n. (hyper_falls m).at _ n;
      cover = λ m.
          let z = cover_stands M rows m in
          let a = row_depth z.place z.below (place_lt rows z.place z.at) in
          let b = helper_depth (length (untils (take z.place rows))) z.below in
          let c = until_row_lem rows z.place z.at refl in
          rw z.made (omega arith);
    }

-- no cycle of a built graph passes through a cover edge, so its count is at most its number of nodes
pub built_free : {M : Model} {p : ℕ} {rows : List Row} → model.WellFormed M → formula.WellFormed p rows → ¬ CoverCycle (graph_of M rows)
built_free {M} {rows = rows} m r = layered_free (built_layered M rows (proper m) (ordered r))

pub built_count : {M : Model} {p : ℕ} {rows : List Row} → model.WellFormed M → formula.WellFormed p rows → count (graph_of M rows) ≤ (graph_of M rows).nodes
built_count {M} {rows = rows} m r = free_count (graph_of M rows) (built_closed M rows (proper m) (ordered r)) (built_free m r)
