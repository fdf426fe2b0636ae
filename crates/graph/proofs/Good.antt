-- What a good reading says: each field is there, each demand is met. Assumes nothing.
use Prim.Native.Nat.{ℕ, ◌+◌, ◌*◌, ◌<◌, ◌≤◌}
use mathlib.Core.List.{List, [], ◌∷◌}
use mathlib.Core.Path.{◌≡◌, refl, sym, ap, subst, ◌∙◌}
use lib.ListN.{length}
use borrow.Author.Tests.{leb-true, eqb-true}
use native.Mathlib.Nat.{add-zero, zero-add}
use native.Mathlib.Omega.{arith}
use Rattle.wire.specs.Read.{Ok, field}
use Rattle.wire.specs.Reader.{read_all, past, one, run}
use Rattle.wire.specs.Start.{read_start}
use Rattle.wire.proofs.Counts.{CountAt, count_good}
use Rattle.wire.proofs.Fields.{value_inside}
use Rattle.wire.proofs.Exact.{all_there}
use Rattle.wire.proofs.Reading.{bind_good, and_good, demand_good, below_good, source_good, good_same}
use Rattle.wire.proofs.Readers.{all_length, run_good, past_wide}
use Rattle.rules.specs.Graph.{Graph, Hyper, Cover, Target}
use Rattle.wire.specs.declared.State.{State}
use Rattle.value.specs.Coded.{bound_of}
use Rattle.wire.specs.Begin.{start}
use Rattle.graph.specs.Format.{graph_header, graph_head, nodes_count, hypers_count, covers_count, most_targets, target_count_at, hyper_width, node_at, target_width, cover_bound_at, cover_target_at}
use Rattle.graph.specs.Message.{read_target, read_hyper, read_targets, read_cover, targets, hypers, covers, first_target, read_header, read_graph}
use Rattle.graph.specs.WellFormed.{targets_of}
use Rattle.graph.specs.declared.Counts.{Counts}

module _ (s : List ℕ) (n : ℕ) where
  -- what a good target says of the bytes
  pub record TargetAt (st : State) (t : Target) : Type 0 where
    pub weight_there : field 4 s st.at ≡ Ok t.weight
    pub node_there : field 2 s (st.at + node_at) ≡ Ok t.node
    pub named : t.node < n

  pub target_good : (st : State) (t : Target) → read_target s n st ≡ Ok t → TargetAt st t
  unfolding read_target
  target_good st t e =
      let w = bind_good _ _ e in
      let v = bind_good _ _ w.rest in
      let node = below_good 2 s (st.at + node_at) n _ v.first in
      let same : record { weight = w.value; node = v.value } ≡ t = good_same v.rest in
      record {
        weight_there = w.first ∙ ap (λ (u : Target). Ok u.weight) same;
        node_there = node.0 ∙ ap (λ (u : Target). Ok u.node) same;
        named = rw (← same) node.1;
      }

  -- what a good hyperedge says of the bytes
  pub record HyperAt (st : State) (h : Hyper) : Type 0 where
    pub source_there : field 2 s st.at ≡ Ok h.source
    pub count_there : field 2 s (st.at + target_count_at) ≡ Ok (length h.targets)
    pub named : h.source < n
    pub ordered : st.prev ≤ h.source
    pub few : st.seen + length h.targets ≤ most_targets
    pub inside : st.at + hyper_width + length h.targets * target_width ≤ length s
    pub targets_there : read_all (targets s n) (length h.targets) (first_target st) ≡ Ok h.targets

  pub hyper_good : (st : State) (h : Hyper) → read_hyper s n st ≡ Ok h → HyperAt st h
  unfolding read_hyper read_targets
  hyper_good st h e =
      let fit = demand_good _ _ _ e in
      let w = bind_good _ _ fit.1 in
      let source = source_good s st.at n st.prev st.at w.first in
      let v = bind_good _ _ w.rest in
      let few = demand_good _ _ _ v.rest in
      let inside = demand_good _ _ _ few.1 in
      let ts = bind_good _ _ inside.1 in
      let same : record { source = w.value; targets = ts.value } ≡ h = good_same ts.rest in
      let count : length h.targets ≡ v.value = ap (λ (u : Hyper). length u.targets) (sym same) ∙ all_length (targets s n) _ _ _ ts.first in
      record {
        source_there = source.0 ∙ ap (λ (u : Hyper). Ok u.source) same;
        count_there = v.first ∙ ap Ok (sym count);
        named = rw (← same) source.1.0;
        ordered = rw (← same) source.1.1;
        few = rw count (leb-true _ _ few.0);
        inside = rw count (leb-true _ _ inside.0);
        targets_there = ap (λ (k : ℕ). read_all (targets s n) k (first_target st)) count ∙ ts.first ∙ ap (λ (u : Hyper). Ok u.targets) same;
      }

  -- what a good cover edge says of the bytes
  pub record CoverAt (st : State) (c : Cover) : Type 0 where
    pub source_there : field 2 s st.at ≡ Ok c.source
    pub code : ℕ
    pub bound_there : field 4 s (st.at + cover_bound_at) ≡ Ok code
    pub bound_is : c.bound ≡ bound_of code
    pub target_there : field 2 s (st.at + cover_target_at) ≡ Ok c.target
    pub named : c.source < n
    pub ordered : st.prev ≤ c.source
    pub target_named : c.target < n

  pub cover_good : (st : State) (c : Cover) → read_cover s n st ≡ Ok c → CoverAt st c
  unfolding read_cover
  cover_good st c e =
      let fit = demand_good _ _ _ e in
      let w = bind_good _ _ fit.1 in
      let source = source_good s st.at n st.prev st.at w.first in
      let b = bind_good _ _ w.rest in
      let v = bind_good _ _ b.rest in
      let target = below_good 2 s (st.at + cover_target_at) n _ v.first in
      let same : record { source = w.value; bound = bound_of b.value; target = v.value } ≡ c = good_same v.rest in
      record {
        source_there = source.0 ∙ ap (λ (u : Cover). Ok u.source) same;
        code = b.value;
        bound_there = b.first;
        bound_is = ap (λ (u : Cover). u.bound) (sym same);
        target_there = target.0 ∙ ap (λ (u : Cover). Ok u.target) same;
        named = rw (← same) source.1.0;
        ordered = rw (← same) source.1.1;
        target_named = rw (← same) target.1;
      }

  -- the state past a good target is 6 bytes on
  pub targets_move : (st next : State) → one (targets s n) st ≡ Ok next → next.at ≡ st.at + target_width
  targets_move st next e = ap (λ (u : State). u.at) (sym (good_same (bind_good _ _ e).rest))

  -- and past k of them k times as far
  pub targets_end : (k : ℕ) (st end : State) → run (targets s n) k st ≡ Ok end → end.at ≡ st.at + k * target_width
  targets_end k st end e =
      let ts = run_good (targets s n) k st end e in
      let wide = past_wide (targets s n) target_width (λ u t. refl) st ts.got in
      ap (λ (u : State). u.at) (sym ts.ends) ∙ wide ∙ ap (λ (j : ℕ). st.at + j * target_width) (all_length _ _ _ _ ts.there)

  -- the state past a good hyperedge or cover edge lies inside the message, and its source exists
  pub hypers_stay : (st next : State) → one (hypers s n) st ≡ Ok next → (next.at ≤ length s) × (next.seen ≤ most_targets) × (next.prev < n)
  hypers_stay st next e =
      let r = bind_good _ _ e in
      let h = hyper_good st r.value r.first in
      (rw (← good_same r.rest) h.inside, rw (← good_same r.rest) h.few, rw (← good_same r.rest) h.named)

  pub covers_stay : (st next : State) → one (covers s n) st ≡ Ok next → (next.at ≤ length s) × (next.prev < n)
  covers_stay st next e =
      let r = bind_good _ _ e in
      let c = cover_good st r.value r.first in
      (omega (arith, value_inside 2 s (st.at + cover_target_at) c.target_there, ap (λ (u : State). u.at) (good_same r.rest)), rw (← good_same r.rest) c.named)

-- the state past hyperedges has counted their targets
seen_past : (s : List ℕ) (n : ℕ) (st : State) (hs : List Hyper) → (past (hypers s n) st hs).seen ≡ st.seen + targets_of hs
unfolding past targets_of
seen_past s n st [] = sym (add-zero _)
seen_past s n st (h ∷ hs) = seen_past s n ((hypers s n).next st h) hs ∙ omega arith

pub targets_told : (s : List ℕ) (n at : ℕ) {end : State} (hs : List Hyper) → past (hypers s n) (start at) hs ≡ end → targets_of hs ≡ end.seen
targets_told s n at hs e = sym (seen_past s n (start at) hs ∙ zero-add _) ∙ ap (λ (st : State). st.seen) e

-- what a good header says of the bytes
pub record HeaderAt (s : List ℕ) (k : Counts) : Type 0 where
  pub opened : read_start s graph_head ≡ Ok tt
  pub n_counted : CountAt s nodes_count k.nodes
  pub h_counted : CountAt s hypers_count k.hypers
  pub c_counted : CountAt s covers_count k.covers
  pub no_targets : k.targets ≡ 0

pub header_good : (s : List ℕ) (k : Counts) → read_header s ≡ Ok k → HeaderAt s k
unfolding read_header
header_good s k e =
    let opened = and_good _ _ e in
    let n = bind_good _ _ opened.1 in
    let h = bind_good _ _ n.rest in
    let c = bind_good _ _ h.rest in
    let same : record { nodes = n.value; hypers = h.value; covers = c.value; targets = 0 } ≡ k = good_same c.rest in
    subst (HeaderAt s) same
    (record {
      opened = opened.0;
      n_counted = count_good _ _ n.first;
      h_counted = count_good _ _ h.first;
      c_counted = count_good _ _ c.first;
      no_targets = refl;
    })

-- the counts that a header tells
abbrev pub counts : Graph → Counts
counts g = record { nodes = g.nodes; hypers = length g.hypers; covers = length g.covers; targets = 0 }

-- what a good message says of its parts
pub record GraphAt (s : List ℕ) (g : Graph) : Type 0 where
  pub header : read_header s ≡ Ok (counts g)
  pub hypers_there : read_all (hypers s g.nodes) (length g.hypers) (start graph_header) ≡ Ok g.hypers
  pub covers_there : read_all (covers s g.nodes) (length g.covers) (start (past (hypers s g.nodes) (start graph_header) g.hypers).at) ≡ Ok g.covers
  pub ends : (past (covers s g.nodes) (start (past (hypers s g.nodes) (start graph_header) g.hypers).at) g.covers).at ≡ length s

pub graph_good : {s : List ℕ} {g : Graph} → read_graph s ≡ Ok g → GraphAt s g
unfolding read_graph
graph_good {s} e =
    let k = bind_good _ _ e in
    let hs = bind_good _ _ k.rest in
    let cs = bind_good _ _ hs.rest in
    let d = demand_good _ _ _ cs.rest in
    let h : k.value.hypers ≡ length hs.value = sym (all_length _ _ _ _ hs.first) in
    let c : k.value.covers ≡ length cs.value = sym (all_length _ _ _ _ cs.first) in
    let t : k.value.targets ≡ 0 = (header_good s k.value k.first).no_targets in
    subst (GraphAt s) (good_same d.1) (record {
      header = k.first ∙ λ i. Ok (record { nodes = k.value.nodes; hypers = h i; covers = c i; targets = t i });
      hypers_there = all_there _ _ _ _ hs.first;
      covers_there = all_there _ _ _ _ cs.first;
      ends = eqb-true _ _ d.0;
    })
