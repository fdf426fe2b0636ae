-- Tests of many records at once: targets by fours, cover edges in order; what passes is read without a fault. Assumes nothing.
use Prim.Native.Nat.{ℕ, zero, suc, ◌+◌, ◌*◌, ◌-◌, ◌<◌, ◌≤◌}
use mathlib.Core.List.{List}
use mathlib.Core.Bool.{Bool, true, false, ◌&&◌, and_assoc}
use mathlib.Core.Path.{◌≡◌, refl, sym, ap, ◌∙◌}
use lib.ListN.{length}
use lib.Dec.{eqb}
use borrow.Author.Tests.{le-leb, ltb-true, eqb-true, eq-eqb}
use native.Mathlib.Nat.{suc-add, zero-add}
use native.Mathlib.Omega.{arith}
use Rattle.lists.proofs.Tests.{by_test, and_left, and_right}
use Rattle.wire.specs.Bytes.{number}
use Rattle.wire.specs.Read.{Ok, misnamed}
use Rattle.wire.specs.Reader.{one, run}
use Rattle.wire.specs.Begin.{start}
use Rattle.wire.specs.declared.State.{State}
use Rattle.wire.proofs.Reading.{reading, good_then, good_below, good_source}
use Rattle.wire.proofs.Readers.{run_more}
use Rattle.ordered.specs.Ordered.{in_order}
use Rattle.ordered.proofs.Ordered.{ReadsInOrder, in_order_runs}
use Rattle.graph.specs.Format.{node_at, target_width, cover_bound_at, cover_target_at, cover_width}
use Rattle.graph.specs.Message.{read_target, read_cover, targets, covers}
use Rattle.graph.specs.Names.{four_width, fours, target_named, all_named, past_fours, covers_in_order, covers_to_end}
use Rattle.wire.proofs.Fields.{field_value}

-- both of two tests that pass together
and_both : (a b : Bool) → (a && b) ≡ true → (a ≡ true) × (b ≡ true)
and_both a b e = (and_left a b e, and_right a b e)

module _ (s : List ℕ) (n : ℕ) where
  -- targets, and targets behind them
  pub all_split : (i j at : ℕ) → all_named s n (i + j) at ≡ (all_named s n i at && all_named s n j (at + i * target_width))
  unfolding all_named
  all_split zero j at = let same : at + 0 * target_width ≡ at = omega arith in rw (zero-add, same)
  all_split (suc i) j at =
      let same : at + target_width + i * target_width ≡ at + suc i * target_width = omega arith in
      rw (suc-add i j, all_split i j (at + target_width), same, and_assoc)

  -- the fours that were passed
  pub record Fours (first end at : ℕ) : Type 0 where
    pub many : ℕ
    pub reached : at ≡ first + many * four_width
    pub before : at ≤ end
    pub named : all_named s n (many * 4) first ≡ true

  -- one four more: the targets before it, its own, and so many behind it
  with_four : {first end at : ℕ} (f : Fours first end at) (behind : ℕ)
      → all_named s n (f.many * 4 + (4 + behind)) first ≡ (all_named s n 4 at && all_named s n behind (at + four_width))
  with_four {first} {end} {at} f behind =
      let place : first + f.many * 4 * target_width ≡ at = omega (arith, f.reached) in
      all_split (f.many * 4) (4 + behind) first ∙ rw (f.named, place) (all_split 4 behind at)

  pub four_more : {first end at : ℕ} → Fours first end at → at + four_width ≤ end → all_named s n 4 at ≡ true → Fours first end (at + four_width)
  unfolding all_named
  four_more {first} {end} {at} f fits named =
      let count : (f.many + 1) * 4 ≡ f.many * 4 + (4 + 0) = omega arith in
      record {
        many = f.many + 1;
        reached = omega (arith, f.reached);
        before = fits;
        named = ap (λ (j : ℕ). all_named s n j first) count ∙ with_four f 0 ∙ rw named refl;
      }

  -- behind the last that fits, and where one names no node
  pub fours_all : {first end at : ℕ} → Fours first end at → end < at + four_width → at ≡ past_fours s n first end
  unfolding past_fours
  fours_all {first} {end} {at} f last =
      let all : fours first end ≡ f.many = omega (arith, f.reached, f.before) in
      rw (all, f.named) f.reached

  pub fours_not : {first end at : ℕ} → Fours first end at → at + four_width ≤ end → all_named s n 4 at ≡ false → first ≡ past_fours s n first end
  unfolding past_fours
  fours_not {first} {end} {at} f fits unnamed =
      let behind : ℕ = fours first end * 4 - (f.many * 4 + 4) in
      let count : fours first end * 4 ≡ f.many * 4 + (4 + behind) = omega (arith, f.reached) in
      let all : all_named s n (fours first end * 4) first ≡ false =
      ap (λ (j : ℕ). all_named s n j first) count ∙ with_four f behind ∙ rw unnamed refl in
      rw all refl

  -- the targets that were passed, all or none
  pub record Passed (first end at : ℕ) : Type 0 where
    pub many : ℕ
    pub reached : at ≡ first + many * target_width
    pub before : at ≤ end
    pub named : all_named s n many first ≡ true

  pub passed : (first end : ℕ) {at : ℕ} → first ≤ end → at ≡ past_fours s n first end → Passed first end at
  unfolding past_fours all_named
  passed first end {at} le e =
      by_test (all_named s n (fours first end * 4) first)
      (λ t.
      let is : at ≡ first + fours first end * four_width = e ∙ rw t refl in
      record { many = fours first end * 4; reached = omega arith; before = omega arith; named = t })
      (λ f.
      let is : at ≡ first = e ∙ rw f refl in
      record { many = 0; reached = omega arith; before = omega arith; named = refl })

  -- a target that names a node is read
  target_read : (st : State) → st.at + target_width ≤ length s → number 2 s (st.at + node_at) < n
      → one (targets s n) st ≡ Ok (record { at = st.at + target_width; prev = st.prev; seen = st.seen })
  unfolding read_target
  target_read st inside less =
      let weight = field_value 4 s st.at (omega arith) in
      let node_here : ℕ = st.at + node_at in
      let node = good_below 2 s node_here n (misnamed node_here) (field_value 2 s node_here (omega arith)) less in
      simp (weight, node, reading)

  -- so a run of k targets goes on behind j that name nodes
  pub run_past : (j k : ℕ) (st : State) → j ≤ k → st.at + j * target_width ≤ length s → all_named s n j st.at ≡ true
      → run (targets s n) (k - j) (record { at = st.at + j * target_width; prev = st.prev; seen = st.seen }) ≡ run (targets s n) k st
  unfolding all_named
  run_past zero k st le inside named =
      let left : k - 0 ≡ k = omega arith in
      let place : st.at + 0 * target_width ≡ st.at = omega arith in
      λ i. run (targets s n) (left i) (record { at = place i; prev = st.prev; seen = st.seen })
  run_past (suc j) k st le inside named =
      let next : State = record { at = st.at + target_width; prev = st.prev; seen = st.seen } in
      let left : k - suc j ≡ k - 1 - j = omega arith in
      let place : st.at + suc j * target_width ≡ st.at + target_width + j * target_width = omega arith in
      let parts = and_both (target_named s n st.at) (all_named s n j (st.at + target_width)) named in
      let first = target_read st (omega arith) (ltb-true _ _ parts.0) in
      let rest = run_past j (k - 1) next (omega arith) (omega arith) parts.1 in
      (λ i. run (targets s n) (left i) (record { at = place i; prev = st.prev; seen = st.seen })) ∙ rest
      ∙ sym (run_more (targets s n) k st (omega arith) ∙ rw (first, good_then))

  -- a cover edge in order is read
  cover_read : ReadsInOrder s n cover_target_at (covers s n)
  unfolding read_cover
  cover_read st inside rises less target-less =
      let source = good_source s st.at n st.prev st.at (field_value 2 s st.at (omega arith)) less rises in
      let bound = field_value 4 s (st.at + cover_bound_at) (omega arith) in
      let target_at : ℕ = st.at + cover_target_at in
      let target = good_below 2 s target_at n (misnamed target_at) (field_value 2 s target_at (omega arith)) target-less in
      simp (le-leb (st.at + cover_width) (length s) inside, source, bound, target, reading)

  -- so the message ends behind those that are in order
  pub in_order_read : (c first : ℕ) → covers_in_order s n c first ≡ true → covers_to_end s n c first ≡ Ok tt
  unfolding covers_in_order
  in_order_read c first e =
      let parts = and_both (eqb (length s) (first + c * cover_width)) (in_order s n cover_target_at c 0 first) e in
      let long = eqb-true (length s) (first + c * cover_width) parts.0 in
      let end = in_order_runs s n cover_target_at (covers s n) cover_read c (start first) (omega arith) parts.1 in
      simp (end.runs, reading, eq-eqb end.last.at (length s) (end.there ∙ sym long))
