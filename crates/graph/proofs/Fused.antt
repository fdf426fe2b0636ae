-- A record whose fields pass the tests of the graph's reading is what that reading gives, and the other way round. Assumes nothing.
use Prim.Native.Nat.{ℕ, zero, suc, ◌+◌, ◌*◌, ◌≤◌}
use mathlib.Core.List.{List}
use mathlib.Core.Path.{◌≡◌, refl, ap}
use lib.ListN.{length}
use borrow.Author.Tests.{le-leb}
use native.Mathlib.Omega.{arith}
use Rattle.wire.specs.Bytes.{number}
use Rattle.wire.specs.Read.{Ok}
use Rattle.wire.specs.Reader.{read_all, one}
use Rattle.wire.specs.Layout.{items, Sound, more}
use Rattle.wire.specs.declared.State.{State}
use Rattle.wire.proofs.Fields.{field_value}
use Rattle.wire.proofs.Reading.{bind_good, good_below, good_source}
use Rattle.wire.proofs.Layouts.{items_length}
use Rattle.wire.proofs.Exact.{good_bind, good_demand}
use Rattle.graph.specs.Format.{most_targets, target_count_at, hyper_width, node_at, target_width, cover_bound_at, cover_target_at, cover_width}
use Rattle.graph.specs.Layouts.{target_layout, HyperOk, CoverOk}
use Rattle.graph.specs.Message.{read_target, read_targets, read_hyper, read_cover, targets, hypers, covers, first_target, after_hyper}
use Rattle.graph.proofs.Good.{hyper_good, cover_good}
use Rattle.graph.proofs.Accepted.{hypers_read, covers_read}
use Rattle.wire.proofs.Fields.{value_is}

module _ (s : List ℕ) (n : ℕ) where
  -- sound targets are read
  targets_read : (k : ℕ) (st : State) → Sound (target_layout s n) k st.at → read_all (targets s n) k st ≡ Ok (items (target_layout s n) k st.at)
  unfolding read_all items read_target
  targets_read zero st sound = refl
  targets_read (suc k) st (more ok rest) =
      good_bind _
      (good_bind _ (field_value 4 s st.at (omega (arith, ok.inside)))
      (good_bind _ (good_below 2 s (st.at + node_at) n _ (field_value 2 s (st.at + node_at) (omega (arith, ok.inside))) ok.named) refl))
      (good_bind _ (targets_read k _ rest) refl)

  -- what the reading of a hyperedge asks
  pub record HyperFits (st : State) : Type 0 where
    pub ok : HyperOk s n st.at
    pub ordered : st.prev ≤ number 2 s st.at
    pub few : st.seen + number 2 s (st.at + target_count_at) ≤ most_targets
    pub inside : st.at + hyper_width + number 2 s (st.at + target_count_at) * target_width ≤ length s

  pub hyper_reads : (st : State) → HyperFits st → one (hypers s n) st ≡ Ok (after_hyper st (number 2 s st.at) (number 2 s (st.at + target_count_at)))
  unfolding read_hyper read_targets
  hyper_reads st f =
      let ok = f.ok in
      let count = number 2 s (st.at + target_count_at) in
      good_bind _
      (good_demand _ (le-leb (st.at + hyper_width) (length s) ok.inside)
      (good_bind _ (good_source s st.at n st.prev st.at (field_value 2 s st.at (omega (arith, ok.inside))) ok.named f.ordered)
      (good_bind _ (field_value 2 s (st.at + target_count_at) (omega (arith, ok.inside)))
      (good_demand _ (le-leb (st.seen + count) most_targets f.few)
      (good_demand _ (le-leb (st.at + hyper_width + count * target_width) (length s) f.inside)
      (good_bind _ (targets_read count (first_target st) ok.sound) refl))))))
      (ap (λ (k : ℕ). Ok (after_hyper st (number 2 s st.at) k)) (items_length (target_layout s n) count (st.at + hyper_width)))

  pub hyper_fits : (st : State) {next : State} → one (hypers s n) st ≡ Ok next → HyperFits st
  hyper_fits st e =
      let h = bind_good _ _ e in
      let g = hyper_good s n st h.value h.first in
      let source : number 2 s st.at ≡ h.value.source = value_is 2 s _ g.source_there in
      let count : number 2 s (st.at + target_count_at) ≡ length h.value.targets = value_is 2 s _ g.count_there in
      record {
        ok = (hypers_read s n st h.value h.first).ok;
        ordered = omega (arith, g.ordered);
        few = omega (arith, g.few);
        inside = omega (arith, g.inside);
      }

  -- what the reading of a cover edge asks
  pub record CoverFits (st : State) : Type 0 where
    pub ok : CoverOk s n st.at
    pub ordered : st.prev ≤ number 2 s st.at

  pub cover_reads : (st : State) → CoverFits st → one (covers s n) st ≡ Ok (record { at = st.at + cover_width; prev = number 2 s st.at; seen = st.seen })
  unfolding read_cover
  cover_reads st f =
      let ok = f.ok in
      good_bind _
      (good_demand _ (le-leb (st.at + cover_width) (length s) ok.inside)
      (good_bind _ (good_source s st.at n st.prev st.at (field_value 2 s st.at (omega (arith, ok.inside))) ok.named f.ordered)
      (good_bind _ (field_value 4 s (st.at + cover_bound_at) (omega (arith, ok.inside)))
      (good_bind _ (good_below 2 s (st.at + cover_target_at) n _ (field_value 2 s (st.at + cover_target_at) (omega (arith, ok.inside))) ok.target_named) refl))))
      refl

  pub cover_fits : (st : State) {next : State} → one (covers s n) st ≡ Ok next → CoverFits st
  cover_fits st e =
      let c = bind_good _ _ e in
      let g = cover_good s n st c.value c.first in
      let source : number 2 s st.at ≡ c.value.source = value_is 2 s _ g.source_there in
      record { ok = (covers_read s n st c.value c.first).ok; ordered = omega (arith, g.ordered) }
