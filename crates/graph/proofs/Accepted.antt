-- What the bytes of an accepted graph message hold, by position. Assumes nothing.
use Prim.Native.Nat.{ℕ, ◌+◌, ◌*◌}
use mathlib.Core.List.{List}
use mathlib.Core.Path.{◌≡◌, refl, sym, ap, subst, ◌∙◌}
use lib.ListN.{length}
use native.Mathlib.Omega.{arith}
use Rattle.wire.specs.Bytes.{number}
use Rattle.wire.specs.Read.{Ok}
use Rattle.wire.specs.Layout.{items, Sound}
use Rattle.wire.proofs.Fields.{value_inside, value_is}
use Rattle.wire.proofs.Layouts.{Reads, reads_all}
use Rattle.rules.specs.Graph.{Graph, Hyper, Cover, Target}
use Rattle.wire.specs.declared.State.{State}
use Rattle.value.specs.Coded.{bound_of}
use Rattle.wire.specs.Begin.{start}
use Rattle.graph.specs.Format.{graph_header, target_count_at, hyper_width, node_at, target_width, cover_bound_at, cover_target_at}
use Rattle.graph.specs.Message.{read_target, read_hyper, read_cover, read_graph, targets, hypers, covers, first_target}
use Rattle.graph.specs.Layouts.{target_layout, hyper_layout, cover_layout, decoded, Scannable}
use Rattle.graph.proofs.Good.{target_good, hyper_good, cover_good, graph_good}

module _ (s : List ℕ) (n : ℕ) where
  targets_read : (st : State) (t : Target) → read_target s n st ≡ Ok t → Reads (target_layout s n) (targets s n) st t
  targets_read st t e =
      let g = target_good s n st t e in
      let w : number 4 s st.at ≡ t.weight = value_is 4 s _ g.weight_there in
      let v : number 2 s (st.at + node_at) ≡ t.node = value_is 2 s _ g.node_there in
      record {
        item_is = λ i. record { weight = sym w i; node = sym v i };
        next_is = refl;
        ok = record { inside = omega (arith, value_inside 2 s (st.at + node_at) g.node_there); named = rw v g.named };
      }

  pub hypers_read : (st : State) (h : Hyper) → read_hyper s n st ≡ Ok h → Reads (hyper_layout s n) (hypers s n) st h
  hypers_read st h e =
      let g = hyper_good s n st h e in
      let source : number 2 s st.at ≡ h.source = value_is 2 s _ g.source_there in
      let count : number 2 s (st.at + target_count_at) ≡ length h.targets = value_is 2 s _ g.count_there in
      let ts = reads_all (target_layout s n) (targets s n) targets_read _ (first_target st) _ g.targets_there in
      record {
        item_is = λ i. record { source = sym source i; targets = (ts.items_are ∙ ap (λ (k : ℕ). items (target_layout s n) k (st.at + hyper_width)) (sym count)) i };
        next_is = ap (λ (k : ℕ). st.at + hyper_width + k * target_width) (sym count);
        ok = record {
          inside = omega (arith, g.inside);
          named = rw source g.named;
          sound = rw count ts.sound;
        };
      }

  pub covers_read : (st : State) (c : Cover) → read_cover s n st ≡ Ok c → Reads (cover_layout s n) (covers s n) st c
  covers_read st c e =
      let g = cover_good s n st c e in
      let source : number 2 s st.at ≡ c.source = value_is 2 s _ g.source_there in
      let code : number 4 s (st.at + cover_bound_at) ≡ g.code = value_is 4 s _ g.bound_there in
      let target : number 2 s (st.at + cover_target_at) ≡ c.target = value_is 2 s _ g.target_there in
      record {
        item_is = λ i. record { source = sym source i; bound = (g.bound_is ∙ ap bound_of (sym code)) i; target = sym target i };
        next_is = refl;
        ok = record {
          inside = omega (arith, value_inside 2 s (st.at + cover_target_at) g.target_there);
          named = rw source g.named;
          target_named = rw target g.target_named;
        };
      }

-- an accepted message holds the graph of its counts, and can be scanned
pub record Holds (s : List ℕ) (g : Graph) (n h c : ℕ) : Type 0 where
  pub is : g ≡ decoded s n h c
  pub sound : Scannable s n h c

pub accepted_holds : (s : List ℕ) (g : Graph) → read_graph s ≡ Ok g → Holds s g g.nodes (length g.hypers) (length g.covers)
unfolding decoded
accepted_holds s g e =
    let p = graph_good {s = s} {g = g} e in
    let n = g.nodes in
    let hypers-hold = reads_all (hyper_layout s n) (hypers s n) (hypers_read s n) _ (start graph_header) _ p.hypers_there in
    let covers-hold = reads_all (cover_layout s n) (covers s n) (covers_read s n) _ _ _ p.covers_there in
    let middle = hypers-hold.end_is in
    record {
      is = λ i. record {
        nodes = n;
        hypers = hypers-hold.items_are i;
        covers = (covers-hold.items_are ∙ ap (items (cover_layout s n) (length g.covers)) middle) i;
      };
      sound = record {
        hypers = hypers-hold.sound;
        covers = subst (Sound (cover_layout s n) (length g.covers)) middle covers-hold.sound;
      };
    }
