-- Which edges stand in the built graph: each belongs to a row or a helper and a state, and whatever belongs to them stands there.
-- Assumes nothing.
use Prim.Native.Nat.{ℕ, suc, zero, ◌+◌, ◌*◌, ◌<◌}
use native.Mathlib.Omega.{arith}
use native.Mathlib.Nat.{mul-le-mul_left}
use lib.ListN.{length, take}
use mathlib.Core.Path.{◌≡◌, refl, sym, ap, ◌∙◌}
use mathlib.Core.Logic.{◌⊎◌, inl, inr, ⊎_map}
use mathlib.Core.Bool.{Bool, true, false, cond}
use mathlib.Core.List.Memᴰ
use mathlib.Core.List.{List, [], ◌∷◌, map}
use Rattle.lists.specs.Lists.{◌∈◌}
use Rattle.lists.specs.Making.{keep, span}
use Rattle.lists.proofs.Making.{∈-span, span-∈}
use Rattle.lists.proofs.Places.{first, place_lt}
use Rattle.value.specs.declared.Bound.{Bound}
use Rattle.rules.specs.Graph.{Graph, Target, Hyper, Cover}
use Rattle.model.specs.Model.{Model}
use Rattle.syntax.specs.declared.Quantifier.{Quantifier}
use Rattle.syntax.specs.declared.Row.{Row}
use Rattle.syntax.specs.declared.Row.TheVariants.{True, False, Proposition, Negation, And, Or, Next, Until}
use Rattle.syntax.specs.WellFormed.{RowAt}
use Rattle.reduction.specs.Built.{layout, hyper, cover, row_edges, helper_edges, row_covers, if_until, is_until, untils, helper_at, graph_of}

-- ---- the edges of a layout

module _ {B E : Type 0} (mk : ℕ → B → E) (s : ℕ) (f : Row → ℕ → ℕ → List B) where
  -- an edge stands in the layout of rows from number k on: of which row and state it is, and what it is made of
  pub record Stands (k : ℕ) (rows : List Row) (e : E) : Type 0 where
    pub place : ℕ
    pub number : ℕ
    pub state : ℕ
    pub row : Row
    pub at : RowAt rows place row
    pub spot : number ≡ k + place
    pub below : state < s
    pub load : B
    pub there : load ∈ f row number state
    pub made : mk (state + s * number) load ≡ e

  -- the edges of one row
  abbrev block : ℕ → Row → List E
  block k row = span (λ a. map (mk (a + s * k)) (f row k a)) 0 s

  stands : (k : ℕ) (rows : List Row) {e : E} → e ∈ layout mk s f k rows → Stands k rows e
  unfolding layout
  stands k [] m = elim m [ ]
  stands k (row ∷ rows) {e} m = go (Memᴰ.append_cases (block k row) m) (stands (suc k) rows)
    where
      go : (e ∈ block k row) ⊎ (e ∈ layout mk s f (suc k) rows) → (e ∈ layout mk s f (suc k) rows → Stands (suc k) rows e) → Stands k (row ∷ rows) e
      go (inl m) rest =
          let (a, p, q, n) = ∈-span (λ a. map (mk (a + s * k)) (f row k a)) 0 s m in
          let (b, h, e) = Memᴰ.of_map (mk (a + s * k)) (f row k a) n in
          record { place = 0; number = k; state = a; row = row; at = refl; spot = omega arith; below = omega arith; load = b; there = h; made = e }
      go (inr m) rest =
          let z = rest m in
          record {
            place = suc z.place;
            number = z.number;
            state = z.state;
            row = z.row;
            at = z.at;
            spot = omega arith;
            below = z.below;
            load = z.load;
            there = z.there;
            made = z.made;
          }

  standing : (k : ℕ) (rows : List Row) (i : ℕ) {r a : ℕ} {row : Row} {b : B} → RowAt rows i row → r ≡ k + i → a < s → b ∈ f row r a
      → mk (a + s * r) b ∈ layout mk s f k rows
  unfolding layout
  standing k [] i at spot l m = let z : ◌≡◌ {A = ℕ} 0 1 = cc in absurd (omega arith)
  standing k (row₀ ∷ rows) zero {r} {a} {row} at spot l m =
      let e : row₀ ≡ row = cc in
      let q : k ≡ r = omega arith in
      Memᴰ.append_left (layout mk s f (suc k) rows)
      (span-∈ (λ a. map (mk (a + s * k)) (f row₀ k a)) 0 s a (omega arith) (omega arith) (rw (e, q) (Memᴰ.map (mk (a + s * r)) m)))
  standing k (row₀ ∷ rows) (suc i) at spot l m = Memᴰ.append_right (block k row₀) (standing (suc k) rows i at (omega arith) l m)

-- ---- until rows

-- an element of what an until row makes
pub record OfUntil {X : Type 0} (row : Row) (f : Quantifier → ℕ → ℕ → Bound → List X) (x : X) : Type 0 where
  pub quantifier : Quantifier
  pub left : ℕ
  pub right : ℕ
  pub bound : Bound
  pub same : row ≡ Until quantifier left right bound
  pub there : x ∈ f quantifier left right bound

pub of_until : {X : Type 0} (row : Row) (f : Quantifier → ℕ → ℕ → Bound → List X) {x : X} → x ∈ if_until row f [] → OfUntil row f x
of_until True f m = elim m [ ]
of_until False f m = elim m [ ]
of_until (Proposition i) f m = elim m [ ]
of_until (Negation i) f m = elim m [ ]
of_until (And l k) f m = elim m [ ]
of_until (Or l k) f m = elim m [ ]
of_until (Next q A l b) f m = elim m [ ]
of_until (Until q l k b) f m = record { quantifier = q; left = l; right = k; bound = b; same = refl; there = m }

-- an until row stands among the until rows behind those before it
pub until_place : (rows : List Row) (r : ℕ) {row : Row} → RowAt rows r row → is_until row ≡ true → RowAt (untils rows) (length (untils (take r rows))) row
unfolding keep
until_place [] r q u = q
until_place (row₀ ∷ rows) zero {row} q u = let e : row₀ ≡ row = cc in rw (e, u)
until_place (row₀ ∷ rows) (suc r) {row} q u = go (is_until row₀) (until_place rows r q u)
  where
    go : (t : Bool) → RowAt (untils rows) (length (untils (take r rows))) row
        → RowAt (cond t (row₀ ∷ untils rows) (untils rows)) (length (cond t (row₀ ∷ untils (take r rows)) (untils (take r rows)))) row
    go true h = h
    go false h = h

-- ---- nodes

-- a node of an earlier row comes before
pub apart : (s a b r k : ℕ) → a < s → r < k → a + s * r < b + s * k
apart s a b r k l h = omega (arith, mul-le-mul_left s h)

module _ (M : Model) (rows : List Row) where
  abbrev g : Graph
  g = graph_of M rows

  abbrev s : ℕ
  s = M.states

  -- each place, of a row or a helper, has a node for each state
  abbrev pub places : ℕ
  places = length rows + length (untils rows)

  pub node_lt : {a r : ℕ} → a < s → r < places → a + s * r < g.nodes
  unfolding graph_of
  node_lt {a} {r} l h = let p = apart s a 0 r places l h in omega arith

  pub helper_lt : (r : ℕ) {q : Quantifier} {j k : ℕ} {b : Bound} → RowAt rows r (Until q j k b) → helper_at rows r < places
  helper_lt r at = let h = place_lt (untils rows) (length (untils (take r rows))) (until_place rows r at refl) in omega arith

  -- ---- hyperedges

  -- a row's target lists, as the layout takes them
  abbrev pub edges : Row → ℕ → ℕ → List (List Target)
  edges row r a = row_edges M row a

  -- of a row, of a helper
  abbrev pub OfRow : Hyper → Type 0
  OfRow h = Stands hyper s edges 0 rows h

  abbrev pub OfHelper : Hyper → Type 0
  OfHelper h = Stands hyper s (helper_edges M) (length rows) (untils rows) h

  pub hyper_stands : {h : Hyper} → h ∈ g.hypers → OfRow h ⊎ OfHelper h
  unfolding graph_of ⊎_map
  hyper_stands m =
      ⊎_map (stands hyper s edges 0 rows) (stands hyper s (helper_edges M) (length rows) (untils rows))
      (Memᴰ.append_cases (layout hyper s edges 0 rows) m)

  pub row_stands : (r : ℕ) {row : Row} {a : ℕ} {ts : List Target} → RowAt rows r row → a < s → ts ∈ row_edges M row a → hyper (a + s * r) ts ∈ g.hypers
  unfolding graph_of
  row_stands r at l m =
      Memᴰ.append_left (layout hyper s (helper_edges M) (length rows) (untils rows)) (standing hyper s edges 0 rows r at (omega arith) l m)

  pub helper_stands : (r : ℕ) {q : Quantifier} {j k : ℕ} {b : Bound} {a : ℕ} {ts : List Target} → RowAt rows r (Until q j k b) → a < s
      → ts ∈ helper_edges M (Until q j k b) (helper_at rows r) a → hyper (a + s * helper_at rows r) ts ∈ g.hypers
  unfolding graph_of
  helper_stands r at l m =
      Memᴰ.append_right (layout hyper s edges 0 rows)
      (standing hyper s (helper_edges M) (length rows) (untils rows) (length (untils (take r rows))) (until_place rows r at refl) refl l m)

  -- ---- cover edges

  -- of an until row: its node and its helper's
  pub record Covers (c : Cover) : Type 0 where
    pub place : ℕ
    pub state : ℕ
    pub quantifier : Quantifier
    pub left : ℕ
    pub right : ℕ
    pub bound : Bound
    pub at : RowAt rows place (Until quantifier left right bound)
    pub below : state < s
    pub made : c ≡ record { source = state + s * place; bound = bound; target = state + s * helper_at rows place }

  pub cover_stands : {c : Cover} → c ∈ g.covers → Covers c
  unfolding graph_of
  cover_stands m =
      let z = stands cover s (row_covers M rows) 0 rows m in
      let u = of_until z.row (λ q j k b. record { bound = b; target = z.state + s * helper_at rows z.number } ∷ []) z.there in
      let e : z.place ≡ z.number = omega arith in
      record {
        place = z.number;
        state = z.state;
        quantifier = u.quantifier;
        left = u.left;
        right = u.right;
        bound = u.bound;
        at = rw (e, u.same) at z.at;
        below = z.below;
        made = sym z.made ∙ ap (cover (z.state + s * z.number)) (Memᴰ.eq_of_singleton u.there);
      }

  pub limit_stands : (r : ℕ) {q : Quantifier} {j k : ℕ} {b : Bound} {a : ℕ} → RowAt rows r (Until q j k b) → a < s
      → record { source = a + s * r; bound = b; target = a + s * helper_at rows r } ∈ g.covers
  unfolding graph_of
  limit_stands r at l = standing cover s (row_covers M rows) 0 rows r at (omega arith) l first
