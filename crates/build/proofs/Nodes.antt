-- The edges of a node of an accepted model, from its state's transitions, and what a builder of them may rely on. Assumes nothing.
use Prim.Native.Nat.{ℕ, suc, ◌+◌, ◌*◌, ◌<◌, ◌≤◌}
use mathlib.Core.List.{List, [], ◌∷◌, ◌++◌, map, map-map}
use mathlib.Core.Path.{◌≡◌, refl, ap, ◌∙◌}
use native.Mathlib.Nat.{mul-le-mul_left, mul-suc}
use native.Mathlib.Numerals.{add-one}
use native.Mathlib.Omega.{arith}
use lib.ListN.{length, length-append}
use Rattle.lists.specs.Lists.{◌∈◌}
use Rattle.lists.specs.Making.{keep, span}
use Rattle.lists.proofs.Making.{span_empty}
use Rattle.value.specs.declared.Bound.{Bound}
use Rattle.syntax.specs.declared.Action.{Action}
use Rattle.wire.specs.Laid.{Laid}
use Rattle.wire.specs.Write.{write_all}
use Rattle.wire.proofs.Laid.{nothing, said}
use Rattle.graph.specs.Write.{write_hyper}
use Rattle.graph.proofs.Exact.{hypers_length}
use Rattle.model.specs.Model.{Model}
use Rattle.syntax.specs.Format.{formula_header, row_width, place_of}
use Rattle.syntax.specs.declared.Quantifier.{Quantifier}
use Rattle.syntax.specs.declared.Quantifier.TheVariants.{Some, Every}
use Rattle.syntax.specs.declared.Row.{Row}
use Rattle.syntax.specs.declared.Row.TheVariants.{Next}
use Rattle.syntax.specs.Layouts.{row_at, row_layout}
use Rattle.syntax.specs.Rows.{operands}
use Rattle.syntax.specs.WellFormed.{RowAt}
use Rattle.reduction.specs.Built.{to, end_of, hyper, out, looks_at, near, leaving, row_edges, if_any, step_edges, layout}
use Rattle.transitions.specs.Held.{held_rows, HoldsRows}
use Rattle.records.specs.Bytes.{hypers_bytes, next_edges, helper_list, row_hypers, rows_hypers, row_bytes, rows_bytes, RowFits}
use Rattle.wire.proofs.Written.{write_all_append}
use Rattle.wire.proofs.Written.{span_written}
use Rattle.wire.proofs.Stride.{items_get}

-- the nodes of an earlier place stand before those of a later one
pub place_fits : (n r l : ℕ) → n * r + n ≤ 4096 → l < r → n * l + n ≤ 4096
place_fits n r l h m =
    let below : n * suc l ≤ n * r = mul-le-mul_left n m in
    omega (arith, rw mul-suc at below)

-- a list that is made of another has an element where that has one
any_map : {A B C : Type 0} (f : A → B) (l : List A) (x : List C) → if_any (map f l) x ≡ if_any l x
any_map f [] x = refl
any_map f (a ∷ l) x = refl

-- an operand's nodes stand before the row's
pub operand_fits : {n r : ℕ} {row : Row} → RowFits n r row → (l : ℕ) → l ∈ operands row → n * l + n ≤ 4096
operand_fits {n} {r} f l m = place_fits n r l f.node (f.operands m)

-- the edges of a state's nodes, over its transitions
module _ (M : Model) (a : ℕ) where
  out_are : out M a ≡ map end_of (leaving M a)
  unfolding out
  out_are = refl

  near_are : (A : Action) (b : Bound) → near M A b a ≡ map end_of (keep (looks_at A b) (leaving M a))
  unfolding near
  near_are A b = refl

  -- EX and AX
  pub next_are : (q : Quantifier) (A : Action) (l : ℕ) (b : Bound) → row_edges M (Next q A l b) a ≡ next_edges q (leaving M a) A b (M.states * l)
  next_are Some A l b = rw (near_are A b, map-map)
  next_are Every A l b = rw (near_are A b, map-map)

  -- an until's helper
  pub helper_are : (q : Quantifier) (l r h : ℕ) → (to 0 (a + M.states * r) ∷ []) ∷ step_edges M q l h a ≡ helper_list M.states a q l r h (leaving M a)
  helper_are Some l r h = rw (out_are, map-map)
  helper_are Every l r h = rw (out_are, map-map, any_map)

-- ---- rows one after another

module _ (M : Model) where
  -- a row's nodes, state by state
  pub row_spans : (r : ℕ) (row : Row) → row_bytes M r row ≡ span (λ a. hypers_bytes (a + M.states * r) (row_edges M row a)) 0 M.states
  unfolding row_bytes
  row_spans r row = span_written write_hyper (λ a. map (hyper (a + M.states * r)) (row_edges M row a)) 0 M.states

  -- and of a row that has none
  pub row_none : (r : ℕ) (row : Row) → ((a : ℕ) → row_edges M row a ≡ []) → {b : List ℕ} {at : ℕ} → at + length (row_bytes M r row) ≤ length b → Laid b at (row_bytes M r row) b at
  unfolding write_all
  row_none r row each {b} {at} h =
      let none : row_bytes M r row ≡ [] = row_spans r row ∙ span_empty _ (λ a. ap (hypers_bytes (a + M.states * r)) (each a)) 0 M.states in
      said (nothing b at (omega arith)) none refl refl

  -- a row more
  pub rows_more : (r : ℕ) (row : Row) (rows : List Row) → rows_bytes M r (row ∷ rows) ≡ row_bytes M r row ++ rows_bytes M (r + 1) rows
  unfolding rows_bytes row_bytes layout
  rows_more r row rows = rw add-one (write_all_append write_hyper (span (λ c. map (hyper (c + M.states * r)) (row_edges M row c)) 0 M.states) _)

  -- and how many hyperedges that is
  pub rows_count : (r : ℕ) (row : Row) (rows : List Row) → length (rows_hypers M r (row ∷ rows)) ≡ length (row_hypers M r row) + length (rows_hypers M (r + 1) rows)
  unfolding layout
  rows_count r row rows = rw add-one (length-append (row_hypers M r row) (rows_hypers M (suc r) rows))

  -- they are not more than their bytes
  pub rows_bytes_lem : (rows : List Row) → length (rows_hypers M 0 rows) ≤ length (rows_bytes M 0 rows)
  unfolding rows_bytes
  rows_bytes_lem rows = omega (arith, hypers_length (rows_hypers M 0 rows))

  pub rows_none : (r : ℕ) → rows_bytes M r [] ≡ []
  unfolding rows_bytes layout write_all
  rows_none r = refl

-- ---- the rows of an accepted formula

module _ {f : List ℕ} {k p : ℕ} (h : HoldsRows f k p) where
  -- the row at a place, and that its operands stand before it
  pub row_placed : (r : ℕ) → r < k → RowAt (held_rows f k) r (row_at f (place_of r))
  unfolding held_rows
  row_placed r l = items_get (row_layout f) row_width (λ at. refl) k formula_header r l

  pub row_fits : (n r : ℕ) → n * k ≤ 4096 → r < k → RowFits n r (row_at f (place_of r))
  row_fits n r fits l =
      let below : n * suc r ≤ n * k = mul-le-mul_left n l in
      record { node = omega (arith, rw mul-suc at below); operands = h.well_formed.earlier r (row_placed r l) }
