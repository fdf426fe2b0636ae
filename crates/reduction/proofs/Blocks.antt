-- Why a node of the built graph is at most d after a round: for a row's node its row's edges alone count, for a helper's the helper's.
-- Assumes nothing.
use Prim.Native.Nat.{ℕ, ◌+◌, ◌*◌, ◌≤◌, ◌<◌}
use native.Mathlib.Omega.{arith}
use native.Mathlib.Nat.{le_antisymm}
use borrow.Author.Tests.{leb-true, leb-false}
use lib.Dec.{leb}
use lib.ListN.{length, take}
use mathlib.Core.Path.{◌≡◌, refl, sym, ap, ◌∙◌}
use mathlib.Core.Logic.{◌⊎◌, inl, inr}
use mathlib.Core.Bool.{true}
use mathlib.Core.List.Memᴰ
use mathlib.Core.List.{List}
use Rattle.lists.specs.Lists.{◌∈◌}
use Rattle.lists.proofs.Tests.{by_test}
use Rattle.lists.proofs.Places.{place_lt}
use Rattle.lists.proofs.Each.{Each}
use Rattle.value.specs.declared.Bound.{Bound}
use Rattle.value.specs.Value.{plus, meets, ◌≼◌}
use Rattle.rules.specs.Graph.{Graph, Target, Hyper, Cover}
use Rattle.rules.specs.Rounds.{Assignment, round}
use Rattle.rules.proofs.Reasons.{Reason, by_cover, by_hyper, reason, at_most_lem}
use Rattle.model.specs.Model.{Model}
use Rattle.syntax.specs.declared.Quantifier.{Quantifier}
use Rattle.syntax.specs.declared.Row.{Row}
use Rattle.syntax.specs.declared.Row.TheVariants.{Until}
use Rattle.syntax.specs.WellFormed.{RowAt}
use Rattle.reduction.specs.Built.{hyper, row_edges, helper_edges, untils, helper_at, graph_of}
use Rattle.reduction.proofs.Stands.{Stands, apart, until_place, OfRow, OfHelper, hyper_stands, row_stands, helper_stands, Covers, cover_stands, limit_stands}

-- a node says its state and its place
row_le : (s a b r k : ℕ) → b < s → a + s * r ≡ b + s * k → r ≤ k
row_le s a b r k h e = by_test (leb r k) (leb-true r k) (λ f. let g = apart s b a k r h (leb-false r k f) in absurd (omega arith))

same_node : (s a b r k : ℕ) → a < s → b < s → a + s * r ≡ b + s * k → (a ≡ b) × (r ≡ k)
same_node s a b r k l h e =
    let q = le_antisymm (row_le s a b r k h e) (row_le s b a k r l (sym e)) in
    (let t : a + s * k ≡ b + s * k = rw q at e in omega arith, q)

-- a hyperedge with the source of a state and a place is one of theirs
module _ {s : ℕ} {f : Row → ℕ → ℕ → List (List Target)} {k : ℕ} {rows : List Row} {h : Hyper} (z : Stands hyper s f k rows h)
    {a r : ℕ} (l : a < s) (e : h.source ≡ a + s * r) where
  node : (z.state ≡ a) × (z.number ≡ r)
  node = same_node s z.state a z.number r z.below l (ap (λ (h : Hyper). h.source) z.made ∙ e)

  own : (i : ℕ) {row : Row} → RowAt rows i row → r ≡ k + i → h.targets ∈ f row r a
  own i {row} at spot =
      let (p, q) = node in
      let j : z.place ≡ i = omega arith in
      let same : z.row ≡ row = cc in
      Memᴰ.cast (ap (λ (h : Hyper). h.targets) (sym z.made)) (rw (same, p, q) at z.there)

  other : {A : Type 0} → (k ≤ r → r < k + length rows → ⊥) → A
  other none = let (p, q) = node in let h = place_lt rows z.place z.at in absurd (none (omega arith) (omega arith))

-- each target's weight plus value is at most d
abbrev pub Cheap : Assignment → ℕ → List Target → Type 0
Cheap x d ts = Each (λ t. plus t.weight (x t.node) ≼ d) ts

module _ (M : Model) (rows : List Row) where
  abbrev g : Graph
  g = graph_of M rows

  abbrev s : ℕ
  s = M.states

  -- so is a cover edge
  cover_node : {c : Cover} (z : Covers M rows c) {a r : ℕ} → a < s → c.source ≡ a + s * r → (z.state ≡ a) × (z.place ≡ r)
  cover_node z {a} {r} l e = same_node s z.state a z.place r z.below l (ap (λ (c : Cover). c.source) (sym z.made) ∙ e)

  module _ (x : Assignment) (r : ℕ) {a : ℕ} (l : a < s) where
    abbrev H : ℕ
    H = helper_at rows r

    -- a row's node: its cover edge holds, or one of its hyperedges is at most d
    pub data Why (row : Row) (d : ℕ) : Type 0 where
      by_limit : (q : Quantifier) (j k : ℕ) (b : Bound) → row ≡ Until q j k b → meets b (x (a + s * H)) ≡ true → Why row d
      by_edge : (ts : List Target) → ts ∈ row_edges M row a → Cheap x d ts → Why row d

    pub why_row : {row : Row} {d : ℕ} → RowAt rows r row → round g x (a + s * r) ≼ d → Why row d
    why_row {row} {d} at p = go (reason g x (a + s * r) p)
      where
        edge : {h : Hyper} → OfRow M rows h ⊎ OfHelper M rows h → h.source ≡ a + s * r → h.targets ∈ row_edges M row a
        edge (inl z) e = own z l e r at (omega arith)
        edge (inr z) e = let h = place_lt rows r at in other z l e (λ p q. omega arith)

        go : Reason g x (a + s * r) d → Why row d
        go (by_cover c m e h) =
            let z = cover_stands M rows m in
            let (p, q) = cover_node z l e in
            let same : row ≡ Until z.quantifier z.left z.right z.bound = cc in
            by_limit z.quantifier z.left z.right z.bound same (rw (z.made, p, q) at h)
        go (by_hyper h m e t) = by_edge h.targets (edge (hyper_stands M rows m) e) (record { at = t })

    pub row_why : {row : Row} {d : ℕ} → RowAt rows r row → Why row d → round g x (a + s * r) ≼ d
    row_why at (by_limit q j k b same e) =
        at_most_lem g x (a + s * r)
        (by_cover (record { source = a + s * r; bound = b; target = a + s * H }) (limit_stands M rows r (rw same at at) l) refl e)
    row_why at (by_edge ts m t) = at_most_lem g x (a + s * r) (by_hyper (hyper (a + s * r) ts) (row_stands M rows r at l m) refl t.at)

    -- a helper's node: one of its hyperedges is at most d
    module _ (q : Quantifier) (j k : ℕ) (b : Bound) (at : RowAt rows r (Until q j k b)) where
      pub why_helper : {d : ℕ} → round g x (a + s * H) ≼ d → (ts : List Target) × (ts ∈ helper_edges M (Until q j k b) H a) × Cheap x d ts
      why_helper {d} p = go (reason g x (a + s * H) p)
        where
          edge : {h : Hyper} → OfRow M rows h ⊎ OfHelper M rows h → h.source ≡ a + s * H → h.targets ∈ helper_edges M (Until q j k b) H a
          edge (inl z) e = other z l e (λ p q. omega arith)
          edge (inr z) e = own z l e (length (untils (take r rows))) (until_place rows r at refl) refl

          go : Reason g x (a + s * H) d → (ts : List Target) × (ts ∈ helper_edges M (Until q j k b) H a) × Cheap x d ts
          go (by_cover c m e h) =
              let z = cover_stands M rows m in
              let (p, q) = cover_node z l e in
              let h = place_lt rows z.place z.at in
              absurd (omega arith)
          go (by_hyper h m e t) = (h.targets, edge (hyper_stands M rows m) e, record { at = t })

      pub helper_why : {d : ℕ} (ts : List Target) → ts ∈ helper_edges M (Until q j k b) H a → Cheap x d ts → round g x (a + s * H) ≼ d
      helper_why ts m t = at_most_lem g x (a + s * H) (by_hyper (hyper (a + s * H) ts) (helper_stands M rows r at l m) refl t.at)
