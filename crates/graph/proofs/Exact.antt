-- A message is accepted as a graph exactly when it is the writing of the graph, and the graph is well-formed. Assumes nothing.
use Prim.Native.Nat.{ℕ, ◌+◌, ◌*◌, ◌^◌, ◌≤◌, ◌<◌}
use mathlib.Core.List.{List, [], ◌∷◌, ◌++◌}
use mathlib.Core.Logic.{◌↔◌}
use mathlib.Core.Path.{◌≡◌, refl, sym, ap, ◌∙◌}
use native.Mathlib.Omega.{arith}
use lib.ListN.{length, drop, length-append}
use borrow.Author.Tests.{le-leb, eq-eqb}
use Rattle.lists.specs.Lists.{◌∈◌}
use Rattle.wire.specs.Start.{start_width}
use Rattle.wire.specs.Bytes.{bytes, Bytes}
use Rattle.wire.specs.Read.{Ok, field}
use Rattle.wire.specs.Reader.{past}
use Rattle.wire.specs.Write.{write_all, message}
use Rattle.wire.proofs.Bytes.{length_bytes}
use Rattle.wire.proofs.Reading.{good_same, good_below, good_source}
use Rattle.wire.proofs.Stands.{Stands, stands_first, stands_second, stands_both, stands_inside, stands_last, value_stands, stands_field}
use Rattle.wire.proofs.Counts.{good_count}
use Rattle.wire.proofs.Exact.{good_bind, good_after, good_demand, length_write_all, Exact, FitsAll, none, more, all_moves, all_reads, all_written, fits_map, fits_both, fits_each, each_fits, fits_rising, rising_fits, message_length, message_rest, start_reads, start_written}
use Rattle.rules.specs.Graph.{Graph, Hyper, Cover, Target}
use Rattle.wire.specs.declared.State.{State}
use Rattle.value.specs.Coded.{code_of, Sayable}
use Rattle.wire.specs.Begin.{start}
use Rattle.graph.specs.Format.{graph_header, graph_head, nodes_count, hypers_count, covers_count, most_targets, target_count_at, hyper_width, node_at, target_width, cover_bound_at, cover_target_at, cover_width}
use Rattle.graph.specs.Message.{read_target, read_targets, read_hyper, read_cover, read_header, read_graph, targets, hypers, covers, first_target}
use Rattle.graph.specs.Write.{write_target, write_hyper, write_cover, write_counts, write_body, write_graph}
use Rattle.graph.specs.WellFormed.{targets_of, WellFormed}
use Rattle.value.proofs.Coded.{code_bound, bound_sayable, bound_code, code_fits}
use Rattle.graph.proofs.Good.{target_good, hyper_good, cover_good, HeaderAt, header_good, counts, GraphAt, graph_good}

-- ---- records

pub record TargetFits (n : ℕ) (t : Target) : Type 0 where
  pub weight_fits : t.weight < 2 ^ 32
  pub named : t.node < n

pub record HyperFits (n : ℕ) (h : Hyper) : Type 0 where
  pub named : h.source < n
  pub few : length h.targets ≤ 65535
  pub targets : {t : Target} → t ∈ h.targets → TargetFits n t

pub record CoverFits (n : ℕ) (c : Cover) : Type 0 where
  pub named : c.source < n
  pub target_named : c.target < n
  pub sayable : Sayable c.bound

-- what a state demands of a record
abbrev pub HyperNext : ℕ → State → Hyper → Type 0
HyperNext n st h = ((st.prev ≤ h.source) × (st.seen + length h.targets ≤ most_targets)) × HyperFits n h

abbrev pub CoverNext : ℕ → State → Cover → Type 0
CoverNext n st c = (st.prev ≤ c.source) × CoverFits n c

-- how long a record is
pub target_length : (t : Target) → length (write_target t) ≡ target_width
unfolding write_target
target_length t = simp (length-append, length_bytes)

pub hyper_length : (h : Hyper) → length (write_hyper h) ≡ hyper_width + length h.targets * target_width
unfolding write_hyper
hyper_length h = simp (length-append, length_bytes, length_write_all write_target target_width target_length)

pub cover_length : (c : Cover) → length (write_cover c) ≡ cover_width
unfolding write_cover
cover_length c = simp (length-append, length_bytes)

pub hypers_length : (hs : List Hyper) → length (write_all write_hyper hs) ≡ length hs * hyper_width + targets_of hs * target_width
unfolding write_all targets_of
hypers_length [] = refl
hypers_length (h ∷ hs) = simp length-append (omega (arith, hyper_length h, hypers_length hs))

module _ (s : List ℕ) (n : ℕ) (small : n ≤ 65536) where
  pub targets_exact : Exact s (targets s n) write_target (λ st t. TargetFits n t)
  unfolding read_target write_target
  targets_exact = record {
    reads = λ b st t e.
        let g = target_good s n st t e in
        let w = value_stands 4 b g.weight_there in
        let v = value_stands 2 b g.node_there in
        (stands_both (simp length_bytes) w.0 v.0, record { weight_fits = w.1; named = g.named });
    written = λ st t h f.
        let weight_there : field 4 s st.at ≡ Ok t.weight = stands_field 4 (omega arith) (stands_first _ _ h) f.weight_fits in
        let node_there : field 2 s (st.at + node_at) ≡ Ok t.node =
        stands_field 2 (omega arith) (stands_second (bytes 4 t.weight) _ (simp length_bytes) h) (omega arith) in
        good_bind _ weight_there (good_bind _ (good_below 2 s (st.at + node_at) n _ node_there f.named) refl);
    moves = λ st t. rw target_length;
  }

  pub hypers_exact : Exact s (hypers s n) write_hyper (HyperNext n)
  unfolding read_hyper read_targets write_hyper
  hypers_exact = record {
    reads = λ b st h e.
        let g = hyper_good s n st h e in
        let source = value_stands 2 b g.source_there in
        let count = value_stands 2 b g.count_there in
        let ts = all_reads targets_exact b _ (first_target st) _ g.targets_there in (
          stands_both (simp (length-append, length_bytes) (omega arith)) (stands_both (simp length_bytes) source.0 count.0) ts.0,
          (
            (g.ordered, g.few),
            record { named = g.named; few = omega arith; targets = fits_each (targets s n) ts.1 },
          ),
        );
    written = λ st h stands f.
        let count : ℕ = length h.targets in
        let fixed : Stands s st.at (bytes 2 h.source ++ bytes 2 count) = stands_first _ _ stands in
        let inside = rw hyper_length at (stands_inside stands (rw hyper_length (omega arith))) in
        let source_there : field 2 s st.at ≡ Ok h.source = stands_field 2 (omega arith) (stands_first _ _ fixed) (omega arith) in
        let count_there : field 2 s (st.at + target_count_at) ≡ Ok count =
        stands_field 2 (omega arith) (stands_second (bytes 2 h.source) _ (simp length_bytes) fixed) (omega arith) in
        let targets_stand : Stands s (st.at + hyper_width) (write_all write_target h.targets) =
        stands_second (bytes 2 h.source ++ bytes 2 count) _ (simp (length-append, length_bytes) (omega arith)) stands in
        let targets_there = all_written targets_exact (first_target st) h.targets targets_stand (each_fits (targets s n) _ _ (λ t m. f.1.targets m)) in
        good_demand _ (le-leb (st.at + hyper_width) (length s) (omega arith))
        (good_bind _ (good_source s st.at n st.prev st.at source_there f.1.named f.0.0)
        (good_bind _ count_there
        (good_demand _ (le-leb _ _ f.0.1)
        (good_demand _ (le-leb (st.at + hyper_width + count * target_width) (length s) (omega arith))
        (good_bind _ targets_there refl)))));
    moves = λ st h. rw hyper_length (omega arith);
  }

  pub covers_exact : Exact s (covers s n) write_cover (CoverNext n)
  unfolding read_cover write_cover
  covers_exact = record {
    reads = λ b st c e.
        let g = cover_good s n st c e in
        let source = value_stands 2 b g.source_there in
        let bound = value_stands 4 b g.bound_there in
        let target = value_stands 2 b g.target_there in
        let code : g.code ≡ code_of c.bound = sym (ap code_of g.bound_is ∙ code_bound g.code) in (
          stands_both (simp (length-append, length_bytes) (omega arith)) (stands_both (simp length_bytes) source.0 (rw code at bound.0)) target.0,
          (
            g.ordered,
            record { named = g.named; target_named = g.target_named; sayable = rw g.bound_is (bound_sayable g.code bound.1) },
          ),
        );
    written = λ st c stands f.
        let front : Stands s st.at (bytes 2 c.source ++ bytes 4 (code_of c.bound)) = stands_first _ _ stands in
        let source_there : field 2 s st.at ≡ Ok c.source = stands_field 2 (omega arith) (stands_first _ _ front) (omega arith) in
        let bound_there : field 4 s (st.at + cover_bound_at) ≡ Ok (code_of c.bound) =
        stands_field 4 (omega arith) (stands_second (bytes 2 c.source) _ (simp length_bytes) front) (code_fits c.bound f.1.sayable) in
        let target_there : field 2 s (st.at + cover_target_at) ≡ Ok c.target =
        stands_field 2 (omega arith) (stands_second (bytes 2 c.source ++ bytes 4 (code_of c.bound)) _ (simp (length-append, length_bytes) (omega arith)) stands) (omega arith) in
        let inside = rw cover_length at (stands_inside stands (rw cover_length (omega arith))) in
        good_demand _ (le-leb (st.at + cover_width) (length s) (omega arith))
        (good_bind _ (good_source s st.at n st.prev st.at source_there f.1.named f.0)
        (good_bind _ bound_there
        (good_bind _ (good_below 2 s (st.at + cover_target_at) n _ target_there f.1.target_named)
        (rw (bound_code c.bound f.1.sayable)))));
    moves = λ st c. rw cover_length;
  }

module _ (s : List ℕ) (n : ℕ) where
  -- the running total demands that all targets together are few
  fits_few : {st : State} {hs : List Hyper} → FitsAll (hypers s n) (λ st h. st.seen + length h.targets ≤ most_targets) st hs → st.seen ≤ most_targets → st.seen + targets_of hs ≤ most_targets
  unfolding targets_of
  fits_few none h = omega arith
  fits_few (more p ps) h = let rest = fits_few ps p in omega arith

  few_fits : (st : State) (hs : List Hyper) → st.seen + targets_of hs ≤ most_targets → FitsAll (hypers s n) (λ st h. st.seen + length h.targets ≤ most_targets) st hs
  unfolding targets_of
  few_fits st [] h = none
  few_fits st (a ∷ hs) h =
      let here : st.seen + length a.targets ≤ most_targets = omega arith in
      more here (few_fits ((hypers s n).next st a) hs (omega arith))

-- ---- whole messages

-- the bytes of the counts
abbrev counts_of : Graph → List ℕ
counts_of g = write_counts g.nodes (length g.hypers) (length g.covers)

body_length : (g : Graph) → start_width + length (write_body g) ≡ graph_header + length (write_all write_hyper g.hypers) + length (write_all write_cover g.covers)
unfolding write_body
body_length g = simp (length-append, length_bytes) (omega arith)

-- the body of a message, part by part
record Laid (s : List ℕ) (g : Graph) : Type 0 where
  n_there : Stands s nodes_count.at (bytes 2 g.nodes)
  h_there : Stands s hypers_count.at (bytes 4 (length g.hypers))
  c_there : Stands s covers_count.at (bytes 2 (length g.covers))
  hypers_there : Stands s graph_header (write_all write_hyper g.hypers)
  covers_there : Stands s (graph_header + length (write_all write_hyper g.hypers)) (write_all write_cover g.covers)

laid_body : {s : List ℕ} (g : Graph) → Laid s g → Stands s start_width (write_body g)
unfolding write_body
laid_body {s} g l =
    let n_and_h : Stands s start_width (bytes 2 g.nodes ++ bytes 4 (length g.hypers)) = stands_both (simp length_bytes) l.n_there l.h_there in
    let counts_there : Stands s start_width (counts_of g) = stands_both (simp (length-append, length_bytes)) n_and_h l.c_there in
    let front : Stands s start_width (counts_of g ++ write_all write_hyper g.hypers) = stands_both (simp (length-append, length_bytes)) counts_there l.hypers_there in
    stands_both (simp (length-append, length_bytes) (omega arith)) front l.covers_there

body_laid : {s : List ℕ} (g : Graph) → Stands s start_width (write_body g) → Laid s g
unfolding write_body
body_laid {s} g h =
    let front : Stands s start_width (counts_of g ++ write_all write_hyper g.hypers) = stands_first _ _ h in
    let counts_there : Stands s start_width (counts_of g) = stands_first _ _ front in
    let n_and_h : Stands s start_width (bytes 2 g.nodes ++ bytes 4 (length g.hypers)) = stands_first _ _ counts_there in
    record {
      n_there = stands_first _ _ n_and_h;
      h_there = stands_second (bytes 2 g.nodes) _ (simp length_bytes) n_and_h;
      c_there = stands_second (bytes 2 g.nodes ++ bytes 4 (length g.hypers)) _ (simp (length-append, length_bytes)) counts_there;
      hypers_there = stands_second (counts_of g) _ (simp (length-append, length_bytes)) front;
      covers_there = stands_second (counts_of g ++ write_all write_hyper g.hypers) _ (simp (length-append, length_bytes) (omega arith)) h;
    }

-- parts that a good message has make it good
good_graph : {s : List ℕ} (g : Graph) → GraphAt s g → read_graph s ≡ Ok g
unfolding read_graph
good_graph g p =
    good_bind _ p.header (good_bind _ p.hypers_there (good_bind _ p.covers_there (good_demand _ (eq-eqb _ _ p.ends) refl)))

-- a graph is well-formed when its counts are within their limits and its records are those that the states demand
fits_well : {s : List ℕ} {g : Graph} {middle : ℕ} → HeaderAt s (counts g)
    → FitsAll (hypers s g.nodes) (HyperNext g.nodes) (start graph_header) g.hypers
    → FitsAll (covers s g.nodes) (CoverNext g.nodes) (start middle) g.covers → WellFormed g
fits_well {s} {g} header hs cs =
    let H = hypers s g.nodes in
    let C = covers s g.nodes in
    let few = fits_few s g.nodes (fits_map H (λ st h p. p.0.1) hs) (omega arith) in
    let hyper : (h : Hyper) → h ∈ g.hypers → HyperFits g.nodes h = λ h m. fits_each H (fits_map H (λ st h p. p.1) hs) m in
    let cover : (c : Cover) → c ∈ g.covers → CoverFits g.nodes c = λ c m. fits_each C (fits_map C (λ st c p. p.1) cs) m in
    record {
      some_node = header.n_counted.no_less;
      nodes_fit = header.n_counted.no_more;
      hypers_fit = header.h_counted.no_more;
      targets_fit = omega arith;
      each_fits = λ m. (hyper _ m).few;
      covers_fit = header.c_counted.no_more;
      hypers_ordered = fits_rising H (λ st. st.prev) (λ h. h.source) (λ st h. refl) (fits_map H (λ st h p. p.0.0) hs);
      covers_ordered = fits_rising C (λ st. st.prev) (λ c. c.source) (λ st c. refl) (fits_map C (λ st c p. p.0) cs);
      closed = record {
        hyper_source = λ m. (hyper _ m).named;
        hyper = λ m i. ((hyper _ m).targets i).named;
        cover_source = λ m. (cover _ m).named;
        cover = λ m. (cover _ m).target_named;
      };
      weights_fit = λ m i. ((hyper _ m).targets i).weight_fits;
      bounds_fit = λ m. (cover _ m).sayable;
    }

-- and the other way round
module _ (s : List ℕ) (g : Graph) (w : WellFormed g) where
  hypers_well : FitsAll (hypers s g.nodes) (HyperNext g.nodes) (start graph_header) g.hypers
  hypers_well =
      let H = hypers s g.nodes in
      fits_both H
      (fits_both H (rising_fits H (λ st. st.prev) (λ h. h.source) (λ st h. refl) (start graph_header) _ w.hypers_ordered)
      (few_fits s g.nodes (start graph_header) _ (omega (arith, w.targets_fit))))
      (each_fits H _ _ (λ h m. record {
        named = w.closed.hyper_source m;
        few = w.each_fits m;
        targets = λ i. record { weight_fits = w.weights_fit m i; named = w.closed.hyper m i };
      }))

  covers_well : (middle : ℕ) → FitsAll (covers s g.nodes) (CoverNext g.nodes) (start middle) g.covers
  covers_well middle =
      let C = covers s g.nodes in
      fits_both C (rising_fits C (λ st. st.prev) (λ c. c.source) (λ st c. refl) (start middle) _ w.covers_ordered)
      (each_fits C _ _ (λ c m. record {
        named = w.closed.cover_source m;
        target_named = w.closed.cover m;
        sayable = w.bounds_fit m;
      }))

pub accepted_written : (s : List ℕ) (g : Graph) → Bytes s → read_graph s ≡ Ok g → (s ≡ write_graph g) × WellFormed g
unfolding write_graph
accepted_written s g b e =
    let p = graph_good {s = s} {g = g} e in
    let header = header_good s _ p.header in
    let started = start_reads graph_head b header.opened in
    let H = hypers_exact s g.nodes (omega arith) in
    let C = covers_exact s g.nodes (omega arith) in
    let hs = all_reads H b _ _ _ p.hypers_there in
    let cs = all_reads C b _ _ _ p.covers_there in
    let middle = all_moves H (start graph_header) g.hypers in
    let end = all_moves C (start (past (hypers s g.nodes) (start graph_header) g.hypers).at) g.covers in
    let body = laid_body g (record {
      n_there = (value_stands 2 b header.n_counted.there).0;
      h_there = (value_stands 4 b header.h_counted.there).0;
      c_there = (value_stands 2 b header.c_counted.there).0;
      hypers_there = hs.0;
      covers_there = rw middle at cs.0;
    }) in
    let rest : drop start_width s ≡ write_body g = stands_last body (omega (arith, body_length g, p.ends)) in
    (started.whole ∙ ap (message graph_head) rest, fits_well header hs.1 cs.1)

pub written_accepted : (g : Graph) → WellFormed g → read_graph (write_graph g) ≡ Ok g
unfolding read_header write_graph
written_accepted g w =
    let s : List ℕ = message graph_head (write_body g) in
    let laid = body_laid g (message_rest graph_head (write_body g)) in
    let long = body_length g in
    let opened = start_written (write_body g) graph_head (omega arith) (omega arith) (omega arith)
    (omega (arith, hypers_length g.hypers, length_write_all write_cover cover_width cover_length g.covers)) in
    let H = hypers_exact s g.nodes (omega arith) in
    let C = covers_exact s g.nodes (omega arith) in
    let middle = all_moves H (start graph_header) g.hypers in
    let at = (past (hypers s g.nodes) (start graph_header) g.hypers).at in
    good_graph g (record {
      header =
          good_after opened
          (good_bind _ (good_count s nodes_count (stands_field 2 (omega arith) laid.n_there (omega arith)) w.some_node w.nodes_fit)
          (good_bind _ (good_count s hypers_count (stands_field 4 (omega arith) laid.h_there (omega arith)) (omega arith) w.hypers_fit)
          (good_bind _ (good_count s covers_count (stands_field 2 (omega arith) laid.c_there (omega arith)) (omega arith) w.covers_fit) refl)));
      hypers_there = all_written H (start graph_header) g.hypers laid.hypers_there (hypers_well s g w);
      covers_there = all_written C (start at) g.covers (rw middle laid.covers_there) (covers_well s g w at);
      ends = rw message_length (omega (arith, all_moves C (start at) g.covers));
    })

pub accepted_exactly : (s : List ℕ) (g : Graph) → Bytes s → (read_graph s ≡ Ok g) ↔ ((s ≡ write_graph g) × WellFormed g)
accepted_exactly s g b = (accepted_written s g b, λ p. ap read_graph p.0 ∙ written_accepted g p.1)

-- two well-formed graphs are never written alike
pub writing_tells : {g h : Graph} → WellFormed g → WellFormed h → write_graph g ≡ write_graph h → g ≡ h
writing_tells {g} {h} v w e = good_same (sym (written_accepted g v) ∙ ap read_graph e ∙ written_accepted h w)
