-- The message of a graph that is built, part by part, and what the tests before it is written say of it. Assumes nothing.
use Prim.Native.Nat.{ℕ, suc, ◌+◌, ◌*◌, ◌≤◌}
use mathlib.Core.List.{List, [], ◌∷◌, ◌++◌, map, append_assoc}
use mathlib.Core.Bool.{true, false, ◌&&◌, and-true}
use mathlib.Core.Path.{◌≡◌, refl, sym, ap, ap₂, ◌∙◌}
use native.Mathlib.Nat.{add-zero, zero-add, mul-le-mul_left}
use native.Mathlib.Omega.{arith}
use lib.Dec.{leb}
use lib.ListN.{length, take, drop, length-append}
use borrow.Author.Tests.{leb-true, le-leb}
use Rattle.lists.specs.Lists.{all}
use Rattle.lists.specs.Making.{span, keep}
use Rattle.lists.proofs.Kept.{keep_fail}
use Rattle.lists.proofs.Tests.{by_test, and_left, and_right}
use Rattle.refusal.specs.Number.{unplaced}
use Rattle.refusal.specs.declared.Refusal.TheVariants.{Size, Room}
use Rattle.value.specs.declared.Bound.{Bound}
use Rattle.wire.specs.Read.{Read, Ok, Err}
use Rattle.wire.specs.Start.{start_width}
use Rattle.wire.specs.Bytes.{bytes}
use Rattle.wire.specs.Laid.{laid, Laid}
use Rattle.wire.specs.Write.{write_all, message}
use Rattle.wire.proofs.Bytes.{length_bytes}
use Rattle.rules.specs.Graph.{Graph}
use Rattle.graph.specs.Format.{graph_length}
use Rattle.graph.specs.WellFormed.{targets_of}
use Rattle.graph.specs.Write.{write_header, write_hyper, write_cover, write_body, write_graph}
use Rattle.model.specs.Model.{Model}
use Rattle.syntax.specs.declared.Quantifier.{Quantifier}
use Rattle.syntax.specs.declared.Row.{Row}
use Rattle.syntax.specs.declared.Row.TheVariants.{Until}
use Rattle.reduction.specs.Built.{if_until, is_until, untils, helper_at, layout, cover, CoverEnd, graph_of}
use Rattle.sizing.specs.declared.Size as size
use Rattle.sizing.specs.Size.{◌⊑◌, size_of, rows_edges, in_limits}
use Rattle.records.specs.Bytes.{rows_bytes, helpers_bytes, cover_bytes, covers_from, covers_of}
use Rattle.build.specs.Built.{fits, roomy, built_of, built_room, enough, Writable}
use Rattle.sizing.proofs.Untils.{other_row, by_row}
use Rattle.sizing.proofs.Limits.{counts_within}
use Rattle.wire.proofs.Written.{write_all_append}
use Rattle.lists.proofs.Making.{span_empty}
use Rattle.sizing.proofs.Whole.{size_of_graph, covers_of_graph, writing_length}

-- ---- the cover edges

-- with s states, and the helper of the row at each place at the place that is given
module _ (s : ℕ) (place : ℕ → ℕ) where
  abbrev limits : Row → ℕ → ℕ → List CoverEnd
  limits row r a = if_until row (λ q l k b. record { bound = b; target = a + s * place r } ∷ []) []

  abbrev here : ℕ → Row → List ℕ
  here r row = write_all write_cover (span (λ a. map (cover (a + s * r)) (limits row r a)) 0 s)

  abbrev written : ℕ → List Row → List ℕ
  written r rows = write_all write_cover (layout cover s limits r rows)

  -- the helpers of the rows from place r on stand from place h on
  abbrev Placed : (r h : ℕ) → List Row → Type 0
  Placed r h rows = (j : ℕ) → place (r + j) ≡ h + length (untils (take j rows))

  module _ (r h : ℕ) (rows : List Row) (rest : (h : ℕ) → Placed (suc r) h rows → written (suc r) rows ≡ covers_from s (suc r) h rows) where
    next : (j : ℕ) → suc r + j ≡ r + suc j
    next j = omega arith

    until_written : (q : Quantifier) (l k : ℕ) (b : Bound)
        → Placed r h (Until q l k b ∷ rows) → here r (Until q l k b) ++ written (suc r) rows ≡ covers_from s r h (Until q l k b ∷ rows)
    unfolding covers_from cover_bytes keep
    until_written q l k b at =
        let first : place r ≡ h = ap place (sym (add-zero r)) ∙ at 0 ∙ add-zero h in
        ap₂ ◌++◌ (ap (λ (p : ℕ). cover_bytes s r p b) first) (rest (suc h) (λ j. ap place (next j) ∙ at (suc j) ∙ omega arith))

    other_written : (row : Row) → is_until row ≡ false
        → Placed r h (row ∷ rows) → here r row ++ written (suc r) rows ≡ covers_from s r h (row ∷ rows)
    unfolding covers_from write_all
    other_written row e at =
        let none : span (λ a. map (cover (a + s * r)) (limits row r a)) 0 s ≡ [] = span_empty _ (λ a. ap (map (cover (a + s * r))) (other_row row _ [] e)) 0 s in
        ap (λ cs. write_all write_cover cs ++ written (suc r) rows) none
        ∙ rest h (λ j. ap place (next j) ∙ at (suc j) ∙ ap (λ l. h + length l) (keep_fail is_until row (take j rows) e))
        ∙ sym (other_row row _ _ e)

  covers_written : (r h : ℕ) (rows : List Row) → Placed r h rows → written r rows ≡ covers_from s r h rows
  unfolding layout write_all covers_from
  covers_written r h [] at = refl
  covers_written r h (row ∷ rows) at =
      let rest : (h : ℕ) → Placed (suc r) h rows → written (suc r) rows ≡ covers_from s (suc r) h rows = λ h at. covers_written (suc r) h rows at in
      write_all_append write_cover (span (λ a. map (cover (a + s * r)) (limits row r a)) 0 s) (layout cover s limits (suc r) rows)
      ∙ by_row (λ row. Placed r h (row ∷ rows) → here r row ++ written (suc r) rows ≡ covers_from s r h (row ∷ rows)) (until_written r h rows rest) (other_written r h rows rest) row at

graph_covers : (M : Model) (rows : List Row) → write_all write_cover (graph_of M rows).covers ≡ covers_of M.states rows
unfolding graph_of
graph_covers M rows = covers_written M.states (helper_at rows) 0 (length rows) rows (λ j. ap (helper_at rows) (zero-add j))

-- ---- the message

message_parts : (g : Graph) (long : ℕ) → long ≡ length (write_graph g)
    → write_graph g ≡ write_header long g.nodes (length g.hypers) (length g.covers) ++ write_all write_hyper g.hypers ++ write_all write_cover g.covers
unfolding write_graph message write_body
message_parts g long e =
    let is : long ≡ start_width + length (write_body g) = e ∙ simp (length-append, length_bytes) (omega arith) in
    rw is (simp append_assoc)

-- its header, and behind it the hyperedges of rows and helpers, and the cover edges
pub graph_parts : (M : Model) (rows : List Row) (long hypers : ℕ) → long ≡ length (write_graph (graph_of M rows)) → hypers ≡ length (graph_of M rows).hypers
    → write_graph (graph_of M rows) ≡ write_header long (M.states * (length rows + length (untils rows))) hypers (M.states * length (untils rows))
    ++ (rows_bytes M 0 rows ++ helpers_bytes M (length rows) (untils rows) ++ covers_of M.states rows)
unfolding graph_of rows_bytes helpers_bytes
graph_parts M rows long hypers long_is hypers_are =
    message_parts (graph_of M rows) long long_is
    ∙ rw (← hypers_are, covers_of_graph M rows, graph_covers M rows, write_all_append) (simp append_assoc)

-- ---- the tests before it is written

-- so many states and rows, so many of them untils, and the size of all hyperedges, as they were counted
pub record Counted (M : Model) (rows : List Row) (n k u : ℕ) (z : size.Size) : Type 0 where
  pub states_are : M.states ≡ n
  pub rows_are : length rows ≡ k
  pub untils_are : u ≡ length (untils rows)
  pub size_is : z ≡ size_of (rows_edges M rows)

module _ {M : Model} {rows : List Row} {n k u : ℕ} {z : size.Size} (c : Counted M rows n k u z) where
  abbrev g : Graph
  g = graph_of M rows

  nodes_are : g.nodes ≡ n * (k + u)
  unfolding graph_of
  nodes_are = rw (c.states_are, c.rows_are, c.untils_are)

  covers_are : length g.covers ≡ n * u
  covers_are = covers_of_graph M rows ∙ ap₂ ◌*◌ c.states_are (sym c.untils_are)

  hypers_are : z.hypers ≡ length g.hypers
  hypers_are = rw c.size_is (sym (size_of_graph M rows).0)

  targets_are : z.targets ≡ targets_of g.hypers
  targets_are = rw c.size_is (sym (size_of_graph M rows).1)

  most_are : all (λ h. leb (length h.targets) 65535) g.hypers ≡ leb z.most 65535
  most_are = rw c.size_is (size_of_graph M rows).2

  -- the length of the message, as it is computed
  abbrev long : ℕ
  long = graph_length z.hypers z.targets (n * u)

  long_is : long ≡ length (write_graph g)
  long_is = rw (hypers_are, targets_are, ← covers_are) (sym (writing_length g))

  fits_are : fits g ≡ (leb (n * (k + u)) 4096 && (leb z.hypers 65535 && (leb z.targets 262144 && (leb z.most 65535 && leb (n * u) 4096))))
  unfolding fits
  fits_are = rw (nodes_are, ← hypers_are, ← targets_are, most_are, covers_are)

  -- it passes a limit exactly where the counts do; there are no more cover edges than nodes
  pub limits_are : fits g ≡ in_limits (n * (k + u)) z
  unfolding in_limits
  limits_are =
      by_test (leb (n * (k + u)) 4096)
      (λ e. let covers : n * u ≤ n * (k + u) = mul-le-mul_left n (omega arith) in
      let few = le-leb (n * u) 4096 (omega (arith, leb-true (n * (k + u)) 4096 e)) in
      fits_are ∙ rw (few, and-true))
      (λ e. fits_are ∙ rw e)

  -- the room of bytes and the room of numbers
  module _ (b : List ℕ) (values : ℕ) where
    roomy_are : roomy g b values ≡ (leb long (length b) && leb (n * (k + u) * 2) values)
    unfolding roomy
    roomy_are = let twice : g.nodes + g.nodes ≡ n * (k + u) * 2 = omega (arith, nodes_are) in rw (long_is, twice)

    -- what is asked of the counts is asked of the graph
    pub enough_are : enough (n * (k + u)) (n * u) z (length b) values ≡ (fits g && roomy g b values)
    unfolding enough
    enough_are = rw (limits_are, roomy_are)

-- what is enough for more is enough
pub enough_less : (nodes covers : ℕ) {x y : size.Size} (bytes values : ℕ) → x ⊑ y → enough nodes covers y bytes values ≡ true → enough nodes covers x bytes values ≡ true
unfolding enough in_limits
enough_less nodes covers {x} {y} bytes values less e =
    let within = counts_within nodes y (and_left (in_limits nodes y) _ e) in
    let rooms = and_right (in_limits nodes y) _ e in
    let long = graph_length y.hypers y.targets covers in
    let room = leb-true long bytes (and_left (leb long bytes) _ rooms) in
    rw (
      le-leb nodes 4096 within.0,
      le-leb x.hypers 65535 (omega (arith, within.1, less.hypers)),
      le-leb x.targets 262144 (omega (arith, within.2, less.targets)),
      le-leb x.most 65535 (omega (arith, within.3, less.most)),
      le-leb (graph_length x.hypers x.targets covers) bytes (omega (arith, room, less.hypers, less.targets)),
      and_right (leb long bytes) _ rooms,
    )

-- ---- the answers

module _ (g : Graph) (b : List ℕ) (values : ℕ) where
  pub size_refused : fits g ≡ false → (◌≡◌ {A = Read ℕ} (Err (unplaced Size)) (built_of g b values)) × (b ≡ built_room g b values)
  unfolding built_of built_room
  size_refused e = (rw e, rw e)

  pub room_refused : fits g ≡ true → (fits g && roomy g b values) ≡ false → (◌≡◌ {A = Read ℕ} (Err (unplaced Room)) (built_of g b values)) × (b ≡ built_room g b values)
  unfolding built_of built_room
  room_refused e f = let short = rw e at f in (rw (e, short), rw (e, short))

  module _ (all : (fits g && roomy g b values) ≡ true) where
    pub writable : Writable g b
    unfolding roomy
    writable = record {
      fits = and_left (fits g) _ all;
      room = leb-true (length (write_graph g)) (length b) (and_left _ _ (and_right (fits g) _ all));
    }

    pub graph_built : {b' : List ℕ} {long : ℕ} → Laid b 0 (write_graph g) b' long → (◌≡◌ {A = Read ℕ} (Ok long) (built_of g b values)) × (b' ≡ built_room g b values)
    unfolding built_of built_room laid
    graph_built h =
        let e = and_left (fits g) _ all in
        let f = and_right (fits g) _ all in
        let long_is = h.next_is ∙ zero-add (length (write_graph g)) in
        (rw (e, f, long_is), rw (e, f) (h.room_is ∙ ap (λ (n : ℕ). write_graph g ++ drop n b) (zero-add (length (write_graph g)))))
