-- An accepted message is ready to be worked on, and so is the writing of a well-formed graph. Assumes nothing.
use Prim.Native.Nat.{ℕ, ◌-◌, ◌*◌, ◌≤◌}
use mathlib.Core.List.{List, map}
use mathlib.Core.Path.{◌≡◌, refl, sym, ap, subst, ◌∙◌}
use lib.ListN.{length}
use native.Mathlib.Omega.{arith}
use Rattle.lists.specs.Order.{Rising}
use Rattle.value.specs.Value.{Value, ◌≼◌}
use Rattle.value.proofs.Values.{≼-fin}
use Rattle.wire.specs.Bytes.{Bytes, number}
use Rattle.wire.specs.Read.{Ok}
use Rattle.wire.proofs.Fields.{value_inside, value_is}
use Rattle.wire.proofs.Reading.{bind_good, good_same}
use Rattle.wire.proofs.Parts.{rising_climbs}
use Rattle.rules.specs.Graph.{Graph, Hyper, Cover, Closed}
use Rattle.rules.proofs.Size.{Light, value_bound}
use Rattle.graph.specs.Format.{graph_header}
use Rattle.graph.specs.declared.Counts.{Counts}
use Rattle.graph.specs.Message.{read_graph}
use Rattle.graph.specs.Answers.{counts_of, checked}
use Rattle.graph.specs.WellFormed.{WellFormed}
use Rattle.graph.specs.Write.{write_graph}
use Rattle.graph.specs.Layouts.{hyper_layout, cover_layout, decoded}
use Rattle.graph.specs.Ready.{Ready, Storable}
use Rattle.graph.proofs.Accepted.{accepted_holds}
use Rattle.graph.proofs.Exact.{accepted_written, written_accepted}
use Rattle.graph.proofs.Good.{HeaderAt, header_good, counts, graph_good}

-- a well-formed graph's finite values never reach the number that stores infinity: (n - 1) w is at most 4,095 times 4,294,967,295
pub rounds_fit : (g : Graph) → WellFormed g → Storable g
rounds_fit g wf i v k l e =
    let light : Light g 4294967295 = record { weight = λ m n. omega (arith, wf.weights_fit m n) } in
    let small = ≼-fin (subst (λ (a : Value). a ≼ ((g.nodes - 1) * 4294967295)) e (value_bound g wf.closed 4294967295 light i v l (rw e refl))) in
    omega (arith, small, wf.nodes_fit)

-- a well-formed graph that is read is ready, with its counts
ready_with : (s : List ℕ) (g : Graph) → read_graph s ≡ Ok g → WellFormed g → Ready s g.nodes (length g.hypers) (length g.covers)
unfolding decoded
ready_with s g r wf =
    let n = g.nodes in
    let held = accepted_holds s g r in
    let rising = subst (λ (g : Graph). Rising (map (λ (x : Hyper). x.source) g.hypers)) held.is wf.hypers_ordered in
    let covers-rising = subst (λ (g : Graph). Rising (map (λ (x : Cover). x.source) g.covers)) held.is wf.covers_ordered in
    record {
      sound = held.sound;
      closed = subst Closed held.is wf.closed;
      storable = subst Storable held.is (rounds_fit g wf);
      hypers_climb = λ i j l k. rising_climbs (hyper_layout s n) (λ x. x.source) 0 _ graph_header i j rising l k;
      covers_climb = λ i j l k. rising_climbs (cover_layout s n) (λ x. x.source) 0 _ _ i j covers-rising l k;
    }

-- a message that is checked as a graph of these counts
pub record Begin (s : List ℕ) (n h c : ℕ) : Type 0 where
  pub reads : read_graph s ≡ Ok (decoded s n h c)
  pub ready : Ready s n h c

pub begin : (s : List ℕ) {k : Counts} → Bytes s → checked (read_graph s) ≡ Ok k → Begin s k.nodes k.hypers k.covers
unfolding checked
begin s bytes e =
    let g = bind_good _ _ e in
    let held = accepted_holds s g.value g.first in
    let wf = (accepted_written s g.value bytes g.first).1 in
    let is : counts_of g.value ≡ _ = good_same g.rest in
    subst (λ (k : Counts). Begin s k.nodes k.hypers k.covers) is (record { reads = g.first ∙ ap Ok held.is; ready = ready_with s g.value g.first wf })

-- bytes that a well-formed graph is written as hold it with the counts of their header, and are ready
pub record Written (s : List ℕ) (g : Graph) (n h c : ℕ) : Type 0 where
  pub nodes : n ≡ g.nodes
  pub is : decoded s n h c ≡ g
  pub ready : Ready s n h c

module _ (s : List ℕ) (g : Graph) (wf : WellFormed g) (e : s ≡ write_graph g) where
  accepted : read_graph s ≡ Ok g
  accepted = ap read_graph e ∙ written_accepted g wf

  header : HeaderAt s (counts g)
  header = header_good s _ (graph_good {s = s} {g = g} accepted).header

  pub header_inside : graph_header ≤ length s
  header_inside = omega (arith, value_inside 2 s 12 header.c_counted.there)

  pub written_ready : {n h c : ℕ} → n ≡ number 2 s 6 → h ≡ number 4 s 8 → c ≡ number 2 s 12 → Written s g n h c
  written_ready {n} {h} {c} n_read h_read c_read =
      let n_is : n ≡ g.nodes = n_read ∙ value_is 2 s 6 header.n_counted.there in
      let h_is : h ≡ length g.hypers = h_read ∙ value_is 4 s 8 header.h_counted.there in
      let c_is : c ≡ length g.covers = c_read ∙ value_is 2 s 12 header.c_counted.there in
      let held = accepted_holds s g accepted in
      rw (n_is, h_is, c_is) (record {
        nodes = refl;
        is = sym held.is;
        ready = ready_with s g accepted wf;
      })
