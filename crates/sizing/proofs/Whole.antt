-- The size of a graph that is built: its hyperedges, targets and cover edges, and the bytes of its message. Assumes nothing.
use Prim.Native.Nat.{ℕ, zero, suc, ◌+◌, ◌*◌, max}
use mathlib.Core.List.{List, [], ◌∷◌, ◌++◌, map, map-append}
use mathlib.Core.Bool.{Bool, cond, ◌&&◌}
use mathlib.Core.Path.{◌≡◌, refl, sym, ap, ap₂, ◌∙◌}
use native.Mathlib.Nat.{mul-suc}
use native.Mathlib.Omega.{arith}
use lib.ListN.{length, length-append, length-map}
use lib.Dec.{leb}
use borrow.Author.Tests.{leb-true, leb-false, le-leb, lt-leb}
use Rattle.lists.specs.Lists.{all}
use Rattle.lists.specs.Making.{keep, span}
use Rattle.lists.proofs.Tests.{by_test}
use Rattle.wire.specs.Write.{write_all, message}
use Rattle.wire.proofs.Bytes.{length_bytes}
use Rattle.wire.proofs.Exact.{length_write_all}
use Rattle.rules.specs.Graph.{Graph, Hyper, Target}
use Rattle.graph.specs.Format.{cover_width, graph_length}
use Rattle.graph.specs.WellFormed.{targets_of}
use Rattle.graph.specs.Write.{write_hyper, write_cover, write_body, write_graph}
use Rattle.model.specs.Model.{Model}
use Rattle.value.specs.declared.Bound.{Bound}
use Rattle.syntax.specs.declared.Quantifier.{Quantifier}
use Rattle.syntax.specs.declared.Row.{Row}
use Rattle.syntax.specs.declared.Row.TheVariants.{Until}
use Rattle.transitions.specs.Held.{held_model, HoldsModel}
use Rattle.reduction.specs.Built.{out, row_edges, helper_edges, is_until, untils, row_covers, layout, hyper, cover, CoverEnd, graph_of}
use Rattle.sizing.specs.declared.Size.{Size}
use Rattle.sizing.specs.Size.{no_size, add_size, size_of, state_edges, rows_edges}
use Rattle.sizing.proofs.Untils.{other_row, by_row}
use Rattle.sizing.proofs.Sizes.{none_add, add_swap, size_append, size_span, size_spans, helper_size_lem}
use Rattle.sizing.proofs.Sums.{step_at, span_sizes, steps_targets, out_all}
use Rattle.graph.proofs.Exact.{hypers_length, cover_length}
use Rattle.lists.proofs.Making.{span_length, span_empty}

-- ---- hyperedges by their target lists

abbrev pub lists_of : List Hyper → List (List Target)
lists_of hs = map (λ h. h.targets) hs

-- each is within a limit exactly when the greatest is
leb_max : (a b k : ℕ) → (leb a k && leb b k) ≡ leb (max a b) k
leb_max a b k =
    by_test (leb a k)
    (λ p. rw p
    (by_test (leb b k) (λ q. q ∙ sym (le-leb (max a b) k (omega (arith, leb-true)))) (λ q. q ∙ sym (lt-leb (max a b) k (omega (arith, leb-false))))))
    (λ p. rw p (sym (lt-leb (max a b) k (omega (arith, leb-false)))))

pub hypers_size : (hs : List Hyper) → let z = size_of (map (λ h. h.targets) hs) in
    (length hs ≡ z.hypers) × (targets_of hs ≡ z.targets) × (all (λ h. leb (length h.targets) 65535) hs ≡ leb z.most 65535)
unfolding size_of targets_of all
hypers_size [] = (refl, refl, refl)
hypers_size (h ∷ hs) =
    let rest = hypers_size hs in (
      omega (arith, rest.0),
      omega (arith, rest.1),
      ap (λ (t : Bool). leb (length h.targets) 65535 && t) rest.2 ∙ leb_max (length h.targets) (size_of (lists_of hs)).most 65535,
    )

-- ---- rows laid out one after another

lists_of_lem : (v : ℕ) (tss : List (List Target)) → lists_of (map (hyper v) tss) ≡ tss
lists_of_lem v [] = refl
lists_of_lem v (ts ∷ tss) = ap (λ r. ts ∷ r) (lists_of_lem v tss)

pub lists_span : (v : ℕ → ℕ) (f : ℕ → List (List Target)) (a n : ℕ) → lists_of (span (λ c. map (hyper (v c)) (f c)) a n) ≡ span f a n
unfolding span
lists_span v f a zero = refl
lists_span v f a (suc n) =
    map-append (λ h. h.targets) (map (hyper (v a)) (f a)) _ ∙ ap₂ ◌++◌ (lists_of_lem (v a) (f a)) (lists_span v f (suc a) n)

-- a row more
layout_size : (s : ℕ) (f : Row → ℕ → ℕ → List (List Target)) (r : ℕ) (row : Row) (rows : List Row)
    → size_of (lists_of (layout hyper s f r (row ∷ rows))) ≡ add_size (size_of (span (f row r) 0 s)) (size_of (lists_of (layout hyper s f (suc r) rows)))
unfolding layout
layout_size s f r row rows =
    let here = span (λ a. map (hyper (a + s * r)) (f row r a)) 0 s in
    ap size_of (map-append (λ h. h.targets) here (layout hyper s f (suc r) rows) ∙ ap (λ x. x ++ lists_of (layout hyper s f (suc r) rows)) (lists_span (λ a. a + s * r) (f row r) 0 s))
    ∙ size_append (span (f row r) 0 s) (lists_of (layout hyper s f (suc r) rows))

module _ (M : Model) where
  -- the helpers of a list of rows; where they stand does not matter
  helpers : ℕ → List Row → Size
  helpers h rows = size_of (lists_of (layout hyper M.states (helper_edges M) h (untils rows)))

  helpers_more : (h : ℕ) (row : Row) (rows : List Row) → (k : ℕ) × (helpers h (row ∷ rows) ≡ add_size (size_of (span (helper_edges M row 0) 0 M.states)) (helpers k rows))
  unfolding helpers keep size_of
  helpers_more h row rows =
      by_test (is_until row)
      (λ e. (
        suc h,
        rw e
            (layout_size M.states (helper_edges M) h row (untils rows)
            ∙ ap (λ x. add_size x (helpers (suc h) rows)) (size_span (helper_edges M row h) (helper_edges M row 0) (λ a. helper_size_lem M row h a ∙ sym (helper_size_lem M row 0 a)) 0 M.states)),
      ))
      (λ e. let nothing : size_of (span (helper_edges M row 0) 0 M.states) ≡ no_size =
      ap size_of (span_empty (helper_edges M row 0) (λ a. other_row row _ [] e) 0 M.states) in
      (h, rw (e, nothing) (sym (none_add (helpers h rows)))))

  -- the rows' and the helpers', regrouped row by row
  regrouped : (r h : ℕ) (rows : List Row)
      → add_size (size_of (lists_of (layout hyper M.states (λ row r a. row_edges M row a) r rows))) (helpers h rows) ≡ size_of (rows_edges M rows)
  unfolding helpers keep layout rows_edges state_edges size_of
  regrouped r h [] = refl
  regrouped r h (row ∷ rows) =
      let s = M.states in
      let more = helpers_more h row rows in
      let own = size_of (span (row_edges M row) 0 s) in
      let helper = size_of (span (helper_edges M row 0) 0 s) in
      let rest = size_of (lists_of (layout hyper s (λ row r a. row_edges M row a) (suc r) rows)) in
      ap₂ add_size (layout_size s (λ row r a. row_edges M row a) r row rows) more.1
      ∙ add_swap own rest helper (helpers more.0 rows)
      ∙ ap₂ add_size (sym (size_spans (row_edges M row) (helper_edges M row 0) 0 s)) (regrouped (suc r) more.0 rows)
      ∙ sym (size_append (span (state_edges M row) 0 s) (rows_edges M rows))

  -- the targets of the helpers of rows are as many as their hyperedges, and the transitions for each until
  module _ (t : ℕ) (each : (q : Quantifier) (l r : ℕ) (b : Bound) → let z = size_of (span (helper_edges M (Until q l r b) 0) 0 M.states) in z.targets ≡ z.hypers + t) where
    row_targets : (row : Row) → let z = size_of (span (helper_edges M row 0) 0 M.states) in z.targets ≡ z.hypers + cond (is_until row) t 0
    unfolding size_of
    row_targets =
        by_row (λ row. let z = size_of (span (helper_edges M row 0) 0 M.states) in z.targets ≡ z.hypers + cond (is_until row) t 0) each
        (λ row e. rw (span_empty (helper_edges M row 0) (λ a. other_row row _ [] e) 0 M.states, e))

    helper_targets : (h : ℕ) (rows : List Row) → (helpers h rows).targets ≡ (helpers h rows).hypers + t * length (untils rows)
    unfolding helpers layout keep size_of
    helper_targets h [] = omega arith
    helper_targets h (row ∷ rows) =
        let more = helpers_more h row rows in
        let here = row_targets row in
        let rest = helper_targets more.0 rows in
        let count : t * length (untils (row ∷ rows)) ≡ cond (is_until row) t 0 + t * length (untils rows) =
        by_test (is_until row) (λ e. rw e (simp mul-suc (omega arith))) (λ e. rw e (omega arith)) in
        rw more.1 (omega (arith, here, rest, count))

-- the bytes of the helpers' hyperedges: 10 for each, and 6 for each until and transition
pub helpers_bytes_lem : {m : List ℕ} {n p t : ℕ} → HoldsModel m n p t → (h : ℕ) (rows : List Row) →
    let hs = layout hyper n (helper_edges (held_model m n p t)) h (untils rows) in
    length (write_all write_hyper hs) ≡ length hs * 10 + t * length (untils rows) * 6
unfolding held_model helpers
helpers_bytes_lem {m} {n} {p} {t} holds h rows =
    let M = held_model m n p t in
    let hs = layout hyper n (helper_edges M) h (untils rows) in
    let each : (q : Quantifier) (l r : ℕ) (b : Bound) → let z = size_of (span (helper_edges M (Until q l r b) 0) 0 n) in z.targets ≡ z.hypers + t =
    λ q l r b. rw (span_sizes (helper_edges M (Until q l r b) 0) (step_at M q) (λ a. helper_size_lem M (Until q l r b) 0 a) 0 n)
    (rw (out_all holds) at (steps_targets q (λ a. length (out M a)) 0 n)) in
    let size = hypers_size hs in
    omega (arith, hypers_length hs, size.0, size.1, helper_targets M t each h rows)

-- ---- the graph

-- what the total says of the graph's hyperedges
pub size_of_graph : (M : Model) (rows : List Row) → let z = size_of (rows_edges M rows) in
    (length (graph_of M rows).hypers ≡ z.hypers) × (targets_of (graph_of M rows).hypers ≡ z.targets)
    × (all (λ h. leb (length h.targets) 65535) (graph_of M rows).hypers ≡ leb z.most 65535)
unfolding graph_of helpers
size_of_graph M rows =
    let first = layout hyper M.states (λ row r a. row_edges M row a) 0 rows in
    let second = layout hyper M.states (helper_edges M) (length rows) (untils rows) in
    let total : size_of (lists_of (first ++ second)) ≡ size_of (rows_edges M rows) =
    ap size_of (map-append (λ h. h.targets) first second) ∙ size_append (lists_of first) (lists_of second) ∙ regrouped M 0 (length rows) rows in
    rw total at (hypers_size (first ++ second))

-- a cover edge for each state and until row
covers_length : (s : ℕ) (f : Row → ℕ → ℕ → List CoverEnd) → ((row : Row) (r a : ℕ) → length (f row r a) ≡ cond (is_until row) 1 0)
    → (r : ℕ) (rows : List Row) → length (layout cover s f r rows) ≡ s * length (untils rows)
unfolding layout keep
covers_length s f each r [] = omega arith
covers_length s f each r (row ∷ rows) =
    let here = span_length (λ a. map (cover (a + s * r)) (f row r a)) (cond (is_until row) 1 0) (λ a. length-map (f row r a) (cover (a + s * r)) ∙ each row r a) 0 s in
    let rest = covers_length s f each (suc r) rows in
    rw (length-append (span (λ a. map (cover (a + s * r)) (f row r a)) 0 s) (layout cover s f (suc r) rows), here, rest)
    (by_test (is_until row) (λ e. rw e (simp mul-suc (omega arith))) (λ e. rw e (omega arith)))

row_covers_lem : (M : Model) (rows : List Row) (row : Row) (r a : ℕ) → length (row_covers M rows row r a) ≡ cond (is_until row) 1 0
row_covers_lem M rows row r a =
    by_row (λ row. length (row_covers M rows row r a) ≡ cond (is_until row) 1 0) (λ q l k b. refl)
    (λ row e. ap length (other_row row _ [] e) ∙ ap (λ (t : Bool). cond t 1 0) (sym e)) row

pub covers_of_graph : (M : Model) (rows : List Row) → length (graph_of M rows).covers ≡ M.states * length (untils rows)
unfolding graph_of
covers_of_graph M rows = covers_length M.states (row_covers M rows) (row_covers_lem M rows) 0 rows

-- ---- the message

pub writing_length : (g : Graph) → length (write_graph g) ≡ graph_length (length g.hypers) (targets_of g.hypers) (length g.covers)
unfolding write_graph message write_body
writing_length g =
    simp (length-append, length_bytes) (omega (arith, hypers_length g.hypers, length_write_all write_cover cover_width cover_length g.covers))
