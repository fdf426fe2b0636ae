-- A fault of a graph message lies where a field starts, nothing before it is to blame, and that field can be mended. Assumes nothing.
use Prim.Native.Nat.{ℕ, ◌+◌, ◌*◌, ◌≤◌, ◌<◌}
use mathlib.Core.List.{List, []}
use mathlib.Core.Path.{◌≡◌, refl, sym, ap, ◌∙◌}
use native.Mathlib.Omega.{arith}
use lib.ListN.{length}
use lib.Dec.{leb, eqb}
use borrow.Author.Tests.{le-leb}
use Rattle.refusal.specs.declared.Fault.{Fault}
use Rattle.refusal.specs.declared.Refusal.TheVariants.{Length}
use Rattle.refusal.specs.Number.{nowhere}
use Rattle.wire.specs.declared.State.{State}
use Rattle.wire.specs.declared.Width.TheVariants.{Two, Four}
use Rattle.wire.specs.Read.{Ok, Err, ◌>>=◌, ◌>>◌, demand}
use Rattle.wire.specs.Reader.{read_all, past}
use Rattle.wire.specs.Begin.{start}
use Rattle.wire.specs.Located.{told, Located, From, SameBefore, Mendable}
use Rattle.wire.proofs.Fields.{value_is}
use Rattle.wire.proofs.Readers.{past_same, past_wide}
use Rattle.wire.proofs.Layouts.{reads_all, end_none, end_last}
use Rattle.wire.proofs.Onward.{Onward, Reached, onward_sooner, onward_on, onward_good, onward_demand, onward_free, onward_named, onward_source, onward_count, onward_bind, onward_then, onward_is, onward_and, onward_test, onward_start, onward_all, placed, none_before, mendable}
use Rattle.rules.specs.Graph.{Hyper, Cover}
use Rattle.graph.specs.Format.{graph_header, graph_head, nodes_count, hypers_count, covers_count, most_targets, target_count_at, hyper_width, node_at, target_width, cover_bound_at, cover_target_at, cover_width}
use Rattle.graph.specs.Message.{read_target, read_targets, read_hyper, read_cover, read_header, read_graph, targets, hypers, covers, first_target}
use Rattle.graph.specs.declared.Counts.{Counts}
use Rattle.graph.specs.Layouts.{hyper_layout}
use Rattle.graph.specs.Located.{FieldStart, hyper_at, target_at, targets_told, cover_at, version, kind, node_count, hyper_count, cover_count, source, target_count, node, cover_source, cover_target}
use Rattle.graph.proofs.Good.{hyper_good, cover_good, header_good}
use Rattle.graph.proofs.Accepted.{hypers_read}

-- ---- the reading goes onward

header_onward : Onward FieldStart (λ s. Unit) 0 read_header (λ k. graph_header)
unfolding read_header
header_onward =
    onward_and (onward_start graph_head (omega arith) (omega arith) (λ s on. version refl) (λ s on. kind refl))
    (onward_then (onward_count nodes_count (omega arith) (omega arith) (omega arith) (λ s on. node_count refl)) _ (λ n h₀.
    onward_then (onward_count hypers_count (omega arith) (omega arith) (omega arith) (λ s on. hyper_count refl)) _ (λ h h₁.
    onward_then (onward_count covers_count (omega arith) (omega arith) (omega arith) (λ s on. cover_count refl)) _ (λ c h₂.
    onward_good _ _ (omega arith)))))

-- what the hyperedges so far leave: the source before is a node, and the total is within its limit
record Kept (n : ℕ) (st : State) : Type 0 where
  named : st.prev < n
  few : st.seen ≤ most_targets

-- records of a message with n nodes
module _ (n : ℕ) (some : 0 < n) where
  target_onward : {On : List ℕ → Type 0} (st : State) → ((s : List ℕ) → On s → FieldStart s (st.at + node_at) Two) → Onward FieldStart On st.at (λ s. read_target s n st) (λ t. st.at + target_width)
  unfolding read_target
  target_onward st node-starts =
      onward_then (onward_free Four st.at (omega arith)) _ (λ w h₀.
      onward_then (onward_named (st.at + node_at) n (omega arith) some node-starts) _ (λ v h₁. onward_good _ _ (omega arith)))

  module _ (small : n ≤ 65536) {On : List ℕ → Type 0} (st : State) where
    -- the targets of the hyperedge at st, where it tells so many
    targets_onward : (count : ℕ) → ((i : ℕ) (s : List ℕ) → On s → i < targets_told s st.at → FieldStart s (target_at st.at i + node_at) Two)
        → Onward FieldStart (λ s. On s × (targets_told s st.at ≡ count)) (st.at + hyper_width) (λ s. read_all (targets s n) count (first_target st)) (λ ts. (past (targets [] n) (first_target st) ts).at)
    targets_onward count node-starts =
        let T = targets [] n in
        onward_on (λ s on. (on, omega arith))
        (onward_all FieldStart T.position (λ s. (targets s n).read) T.next (λ u. Unit) (λ i u s. (On s × (targets_told s st.at ≡ count)) × (u.at ≡ target_at st.at i)) count
        (λ i u less v. target_onward u (λ s on. rw on.1 (node-starts i s on.0.0 (omega (arith, on.0.1)))))
        (λ u t v r. tt)
        (λ i u t s on e. (on.0, omega (arith, on.1)))
        0 count (first_target st) (omega arith) tt)

    -- the total is judged at the target count
    hyper_onward : Kept n st → ((s : List ℕ) → On s → FieldStart s st.at Two) → ((s : List ℕ) → On s → FieldStart s (st.at + target_count_at) Two)
        → ((i : ℕ) (s : List ℕ) → On s → i < targets_told s st.at → FieldStart s (target_at st.at i + node_at) Two)
        → Onward FieldStart On st.at (λ s. read_hyper s n st) (λ h. st.at + hyper_width + length h.targets * target_width)
    unfolding read_hyper read_targets
    hyper_onward kept source-starts count-starts node-starts =
        let few : st.seen + 0 ≤ most_targets = omega (arith, kept.few) in
        onward_and (onward_demand st.at (λ long. leb (st.at + hyper_width) long) Length)
        (onward_then (onward_source st.at n st.prev (omega arith) kept.named small source-starts) _ (λ v h₀.
        onward_test Two (st.at + target_count_at) (λ count. leb (st.seen + count) most_targets) _ _ (omega arith) refl (le-leb (st.seen + 0) most_targets few) count-starts (λ count.
        onward_and (onward_demand (st.at + target_count_at + 2) (λ long. leb (st.at + hyper_width + count * target_width) long) Length)
        (onward_then (onward_sooner (omega arith) (targets_onward count node-starts)) _ (λ ts h₂.
        onward_good _ _ (omega (arith, past_wide (targets [] n) target_width (λ u t. refl) (first_target st) ts)))))))

    cover_onward : st.prev < n → ((s : List ℕ) → On s → FieldStart s st.at Two) → ((s : List ℕ) → On s → FieldStart s (st.at + cover_target_at) Two)
        → Onward FieldStart On st.at (λ s. read_cover s n st) (λ c. st.at + cover_width)
    unfolding read_cover
    cover_onward named source-starts target-starts =
        onward_and (onward_demand st.at (λ long. leb (st.at + cover_width) long) Length)
        (onward_then (onward_source st.at n st.prev (omega arith) named small source-starts) _ (λ v h₀.
        onward_then (onward_free Four (st.at + cover_bound_at) (omega arith)) _ (λ b h₁.
        onward_then (onward_named (st.at + cover_target_at) n (omega arith) some target-starts) _ (λ t h₂. onward_good _ _ (omega arith)))))

-- where the cover edges behind the hyperedges start, and where they end
abbrev middle : ℕ → List Hyper → ℕ
middle n hs = (past (hypers [] n) (start graph_header) hs).at

abbrev ends : ℕ → List Hyper → List Cover → ℕ
ends n hs cs = (past (covers [] n) (start (middle n hs)) cs).at

-- in a message with this header
module _ (k : Counts) (reached : Reached read_header k) where
  abbrev Headed : List ℕ → Type 0
  Headed s = read_header s ≡ Ok k

  nodes_told : (s : List ℕ) → Headed s → told s nodes_count ≡ k.nodes
  nodes_told s e = value_is _ s _ (header_good s k e).n_counted.there

  hypers_told : (s : List ℕ) → Headed s → told s hypers_count ≡ k.hypers
  hypers_told s e = value_is _ s _ (header_good s k e).h_counted.there

  covers_told : (s : List ℕ) → Headed s → told s covers_count ≡ k.covers
  covers_told s e = value_is _ s _ (header_good s k e).c_counted.there

  some_node : 0 < k.nodes
  some_node = (header_good reached.message k reached.given).n_counted.no_less

  few_nodes : k.nodes ≤ 65536
  few_nodes = omega (arith, (header_good reached.message k reached.given).n_counted.no_more)

  hypers_onward : Onward FieldStart Headed graph_header (λ s. read_all (hypers s k.nodes) k.hypers (start graph_header)) (middle k.nodes)
  hypers_onward =
      let H = hypers [] k.nodes in
      onward_on (λ s on. (on, sym (end_none (hyper_layout s (told s nodes_count)) 0 graph_header refl)))
      (onward_all FieldStart H.position (λ s. (hypers s k.nodes).read) H.next (Kept k.nodes) (λ j st s. Headed s × (st.at ≡ hyper_at s j)) k.hypers
      (λ j st less kept.
      hyper_onward k.nodes some_node few_nodes st kept
      (λ s on. source j (omega (arith, hypers_told s on.0)) on.1)
      (λ s on. target_count j (omega (arith, hypers_told s on.0)) (ap (λ (x : ℕ). x + target_count_at) on.1))
      (λ i s on few. node j i (omega (arith, hypers_told s on.0)) (rw on.1 at few) (ap (λ (x : ℕ). target_at x i + node_at) on.1)))
      (λ st h kept r. let g = hyper_good r.message k.nodes st h r.given in record { named = g.named; few = g.few })
      (λ j st h s on e.
      let L = hyper_layout s (told s nodes_count) in
      (on.0, (hypers_read s k.nodes st h e).next_is ∙ ap L.next on.1 ∙ sym (end_last L j graph_header)))
      0 k.hypers (start graph_header) (omega arith) (record { named = some_node; few = omega arith }))

  -- where the hyperedges that were read lead
  middle_is : (s : List ℕ) (hs : List Hyper) → Headed s → read_all (hypers s k.nodes) k.hypers (start graph_header) ≡ Ok hs → middle k.nodes hs ≡ hyper_at s (told s hypers_count)
  middle_is s hs on read =
      ap (λ (st : State). st.at) (past_same (hypers [] k.nodes) (hypers s k.nodes) refl (start graph_header) hs)
      ∙ (reads_all (hyper_layout s k.nodes) (hypers s k.nodes) (hypers_read s k.nodes) k.hypers (start graph_header) hs read).end_is
      ∙ rw (nodes_told s on, hypers_told s on)

  covers_onward : (hs : List Hyper) → Onward FieldStart (λ s. Headed s × (read_all (hypers s k.nodes) k.hypers (start graph_header) ≡ Ok hs)) (middle k.nodes hs)
      (λ s. read_all (covers s k.nodes) k.covers (start (middle k.nodes hs))) (ends k.nodes hs)
  covers_onward hs =
      let C = covers [] k.nodes in
      onward_on (λ s on. (on.0, omega (arith, middle_is s hs on.0 on.1)))
      (onward_all FieldStart C.position (λ s. (covers s k.nodes).read) C.next (λ st. st.prev < k.nodes) (λ j st s. Headed s × (st.at ≡ cover_at s j)) k.covers
      (λ j st less named.
      cover_onward k.nodes some_node few_nodes st named
      (λ s on. cover_source j (omega (arith, covers_told s on.0)) on.1)
      (λ s on. cover_target j (omega (arith, covers_told s on.0)) (ap (λ (x : ℕ). x + cover_target_at) on.1)))
      (λ st c named r. (cover_good r.message k.nodes st c r.given).named)
      (λ j st c s on e. (on.0, omega (arith, on.1)))
      0 k.covers (start (middle k.nodes hs)) (omega arith) some_node)

graph_onward : Onward FieldStart (λ s. Unit) 0 read_graph (λ g. ends g.nodes g.hypers g.covers)
unfolding read_graph
graph_onward =
    onward_bind header_onward _ (λ k reached.
    onward_on (λ s on. on.1)
    (onward_bind (hypers_onward k reached) _ (λ hs h₁.
    let n = k.nodes in
    onward_is {read = λ s. read_all (covers s n) k.covers (start (middle n hs)) >>= λ cs. demand (eqb (ends n hs cs) (length s)) Length nowhere >> Ok (record { nodes = n; hypers = hs; covers = cs })}
    (λ s i.
    let M : past (hypers [] n) (start graph_header) hs ≡ past (hypers s n) (start graph_header) hs = past_same (hypers [] n) (hypers s n) refl (start graph_header) hs in
    let E : (cs : List Cover) → ends n hs cs ≡ (past (covers s n) (start (past (hypers s n) (start graph_header) hs).at) cs).at =
    λ cs. ap (λ (st : State). st.at) (past_same (covers [] n) (covers s n) refl (start (middle n hs)) cs) ∙ ap (λ (st : State). (past (covers s n) (start st.at) cs).at) M in
    read_all (covers s n) k.covers (start (M i).at) >>= λ cs. demand (eqb (E cs i) (length s)) Length nowhere >> Ok (record { nodes = n; hypers = hs; covers = cs }))
    (onward_then (covers_onward k reached hs) _ (λ cs h₂.
    onward_and (onward_demand (ends n hs cs) (λ long. eqb (ends n hs cs) long) Length) (onward_good _ _ (omega arith)))))))

-- ---- the laws

-- the field at the offset of a fault is one of these, and lies inside the message
pub fault_located : (s : List ℕ) {f : Fault} → read_graph s ≡ Err f → Located (FieldStart s) s f
fault_located s e = placed graph_onward s e

-- nothing before the offset is to blame: whatever one writes from there on, no field before it is found at fault
pub nothing_before : (s s' : List ℕ) {f f' : Fault} → read_graph s ≡ Err f → SameBefore f.offset s s' → read_graph s' ≡ Err f' → From f.offset f'
nothing_before s s' e alike e' = none_before graph_onward s e s' alike e'

-- one number put into the field at the offset makes the message read past it
pub mended : (s : List ℕ) {f : Fault} → read_graph s ≡ Err f → nowhere < f.offset → Mendable (FieldStart s) read_graph s f.offset
mended s e some = mendable graph_onward s e some
