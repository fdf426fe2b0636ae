-- What the writing of a graph that passes no limit may rely on. Assumes nothing.
use Prim.Native.Nat.{ℕ, ◌+◌, ◌*◌, ◌≤◌}
use mathlib.Core.List.{List, ◌++◌}
use mathlib.Core.Bool.{Bool, true, ◌&&◌}
use mathlib.Core.Logic.{◌↔◌}
use mathlib.Core.Path.{◌≡◌, refl, sym, ap, ◌∙◌}
use native.Mathlib.Nat.{mul-le-mul_left}
use native.Mathlib.Omega.{arith}
use lib.Dec.{leb}
use lib.ListN.{length, length-append}
use borrow.Author.Tests.{leb-true, le-leb}
use Rattle.lists.specs.Lists.{all}
use Rattle.lists.proofs.Kept.{keep_length}
use Rattle.lists.proofs.Lists.{all_true, true_all}
use Rattle.lists.proofs.Making.{∈-keep}
use Rattle.lists.proofs.Places.{place_lt, ∈-place}
use Rattle.lists.proofs.Tests.{and_left, and_right}
use Rattle.wire.proofs.Bytes.{length_bytes}
use Rattle.rules.specs.Graph.{Graph, Hyper}
use Rattle.graph.specs.Format.{graph_header}
use Rattle.graph.specs.WellFormed.{targets_of}
use Rattle.graph.specs.Write.{write_header, write_graph}
use Rattle.reduction.specs.Built.{is_until, untils, graph_of, Fits}
use Rattle.build.specs.Built.{fits, Writable}
use Rattle.records.specs.Bytes.{rows_hypers, helpers_hypers, rows_bytes, helpers_bytes, covers_of, HelpersFit}
use Rattle.transitions.specs.Held.{held_model, held_rows, HoldsModel, HoldsRows}
use Rattle.transitions.proofs.Accepted.{rows_length}
use Rattle.build.proofs.Parts.{graph_parts}
use Rattle.build.proofs.Narrow.{few_narrow}
use Rattle.sizing.proofs.Whole.{size_of_graph, writing_length}

-- what the test says, limit by limit
pub fits_each : (g : Graph) → fits g ≡ true → Fits g
unfolding fits
fits_each g e =
    let nodes = leb g.nodes 4096 in
    let hypers = leb (length g.hypers) 65535 in
    let targets = leb (targets_of g.hypers) 262144 in
    let few : Hyper → Bool = λ h. leb (length h.targets) 65535 in
    let each = all few g.hypers in
    let covers = leb (length g.covers) 4096 in
    let rest = and_right nodes (hypers && (targets && (each && covers))) e in
    let edges = and_right hypers (targets && (each && covers)) rest in
    let last = and_right targets (each && covers) edges in
    record {
      nodes_fit = leb-true _ _ (and_left nodes _ e);
      hypers_fit = leb-true _ _ (and_left hypers _ rest);
      targets_fit = leb-true _ _ (and_left targets _ edges);
      each_fits = λ {h} m. leb-true _ _ (all_true few g.hypers (and_left each covers last) h m);
      covers_fit = leb-true _ _ (and_right each covers last);
    }

-- and the limits say it: SIZE exactly where one is passed
pub fits_exactly : (g : Graph) → (fits g ≡ true) ↔ Fits g
unfolding fits
fits_exactly g = (
  fits_each g,
  λ f. rw (
    le-leb g.nodes 4096 f.nodes_fit,
    le-leb (length g.hypers) 65535 f.hypers_fit,
    le-leb (targets_of g.hypers) 262144 f.targets_fit,
    true_all (λ (h : Hyper). leb (length h.targets) 65535) g.hypers (λ h m. le-leb (length h.targets) 65535 (f.each_fits m)),
    le-leb (length g.covers) 4096 f.covers_fit,
  ),
)

-- none of its hyperedges is too large, tested on all at once
fits_most : (g : Graph) → fits g ≡ true → all (λ h. leb (length h.targets) 65535) g.hypers ≡ true
fits_most g e = true_all _ g.hypers (λ h m. le-leb _ _ ((fits_each g e).each_fits m))

-- there are no more until rows than rows
pub untils_few : {f : List ℕ} {k p : ℕ} → HoldsRows f k p → length (untils (held_rows f k)) ≤ k
untils_few {f} {k} h = omega (arith, keep_length is_until (held_rows f k), rows_length f k)

-- the header is as long whatever its counts are
pub header_length : (long n h c : ℕ) → length (write_header long n h c) ≡ graph_header
header_length long n h c = simp (length-append, length_bytes)

module _ {m : List ℕ} {n p t : ℕ} {f : List ℕ} {k q u : ℕ} {b : List ℕ} (hm : HoldsModel m n p t) (hr : HoldsRows f k q)
    (u-is : u ≡ length (untils (held_rows f k))) (w : Writable (graph_of (held_model m n p t) (held_rows f k)) b) where
  -- rows and helpers have few nodes
  pub nodes_few : n * (k + u) ≤ 4096
  unfolding held_model graph_of
  nodes_few = rw u-is (rw rows_length at (fits_each (graph_of (held_model m n p t) (held_rows f k)) w.fits).nodes_fit)

  pub rows_few : n * k ≤ 4096
  rows_few = let below : n * k ≤ n * (k + u) = mul-le-mul_left n (omega arith) in omega (arith, nodes_few)

  pub helpers_fit : HelpersFit (held_model m n p t) k (untils (held_rows f k))
  unfolding held_model
  helpers_fit =
      let M = held_model m n p t in
      let rows = held_rows f k in
      let g = graph_of M rows in
      let size = size_of_graph M rows in
      record {
        node = rw (← u-is) nodes_few;
        operands = λ {row} q l.
            let (i, at) = ∈-place (∈-keep is_until rows q).0 in
            omega (arith, hr.well_formed.earlier i at l, place_lt rows i at, rows_length f k);
        narrow = few_narrow M rows (rw (← size.0) (fits_each g w.fits).hypers_fit) (leb-true _ _ (sym size.2 ∙ fits_most g w.fits));
      }

  -- the hyperedges of rows and of helpers together are the graph's, and few
  pub hypers_few : {rows helpers : ℕ} → rows ≡ length (rows_hypers (held_model m n p t) 0 (held_rows f k)) → helpers ≡ length (helpers_hypers (held_model m n p t) k (untils (held_rows f k)))
      → (rows + helpers ≡ length (graph_of (held_model m n p t) (held_rows f k)).hypers) × (rows + helpers ≤ 65535)
  unfolding graph_of
  hypers_few {rows} {helpers} rows_are helpers-are =
      let M = held_model m n p t in
      let first = rows_hypers M 0 (held_rows f k) in
      let second = helpers_hypers M (length (held_rows f k)) (untils (held_rows f k)) in
      let there = ap (λ (h : ℕ). length (helpers_hypers M h (untils (held_rows f k)))) (rows_length f k) in
      let all : rows + helpers ≡ length (first ++ second) = omega (arith, rows_are, helpers-are, there, length-append first second) in
      (all, omega (arith, all, (fits_each (graph_of M (held_rows f k)) w.fits).hypers_fit))

  -- the message is not long
  pub long_few : length (write_graph (graph_of (held_model m n p t) (held_rows f k))) ≤ 1900000
  long_few =
      let g = graph_of (held_model m n p t) (held_rows f k) in
      let f = fits_each g w.fits in
      omega (arith, writing_length g, f.hypers_fit, f.targets_fit, f.covers_fit)

  -- the parts of the message
  pub written_parts : {long hypers : ℕ} → long ≡ length (write_graph (graph_of (held_model m n p t) (held_rows f k))) → hypers ≡ length (graph_of (held_model m n p t) (held_rows f k)).hypers
      → write_graph (graph_of (held_model m n p t) (held_rows f k))
      ≡ write_header long (n * (k + u)) hypers (n * u) ++ (rows_bytes (held_model m n p t) 0 (held_rows f k)
      ++ helpers_bytes (held_model m n p t) k (untils (held_rows f k)) ++ covers_of n (held_rows f k))
  unfolding held_model
  written_parts {long} {hypers} long_is hypers_are =
      let parts = graph_parts (held_model m n p t) (held_rows f k) long hypers long_is hypers_are in
      rw (rows_length f k) (rw (rows_length f k, ← u-is) at parts)

  -- they fit behind the header
  pub body_fits : graph_header + length (rows_bytes (held_model m n p t) 0 (held_rows f k) ++ helpers_bytes (held_model m n p t) k (untils (held_rows f k)) ++ covers_of n (held_rows f k))
      ≡ length (write_graph (graph_of (held_model m n p t) (held_rows f k)))
  body_fits =
      let g = graph_of (held_model m n p t) (held_rows f k) in
      let long = length (write_graph g) in
      let hypers = length g.hypers in
      let body = rows_bytes (held_model m n p t) 0 (held_rows f k) ++ helpers_bytes (held_model m n p t) k (untils (held_rows f k)) ++ covers_of n (held_rows f k) in
      omega (arith, ap length (written_parts refl refl), length-append (write_header long (n * (k + u)) hypers (n * u)) body, header_length long (n * (k + u)) hypers (n * u))

-- where three parts fit, so do the first of them
pub parts_fit : (at : ℕ) (r e c : List ℕ) {size : ℕ} → at + length (r ++ e ++ c) ≤ size
    → (at + length r ≤ size) × (at + length (r ++ e) ≤ size) × (at + length (r ++ e ++ c) ≤ size)
parts_fit at r e c fits = omega (arith, length-append r e, length-append (r ++ e) c)
