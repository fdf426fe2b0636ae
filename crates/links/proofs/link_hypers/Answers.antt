-- `links::link_hypers` meets its contract: the next hyperedge is sound, and the one behind it stands where its places tell.
use Prim.Native.Nat.{ℕ, ◌+◌, ◌-◌, ◌*◌, ◌≤◌}
use mathlib.Core.Path.{◌≡◌, refl, sym, ap, subst, ◌∙◌}
use lib.ListN.{length}
use native.Mathlib.Omega.{arith}
use Rattle.wire.specs.Bytes.{number}
use Rattle.wire.specs.Layout.{items}
use Rattle.wire.proofs.Layouts.{end_none}
use Rattle.wire.proofs.Parts.{end_next, sound_at}
use Rattle.graph.specs.Format.{graph_header, target_count_at, hyper_width, target_width}
use Rattle.graph.specs.Layouts.{target_layout, hyper_layout, HyperOk}
use Rattle.links.specs.Links.{hyper_at, Linked}
use Rattle.links.proofs.Linking.{long_own, linked_open, hyper_far}
use Rattle.links.proofs.link_hypers.Goals as goal
use Rattle.links.proofs.link_hypers.Goals.{In-loop-j}

pub loop-j-init : goal.loop-j-init
loop-j-init c = record { there = sym (end_none _ 0 graph_header refl); counted = omega arith; heads_long = refl; linked = c.requires.nothing }

module _ (c : In-loop-j) where
  -- the next hyperedge is sound
  here : HyperOk c.args.g.bytes.now c.args.g.nodes c.loop-j.p
  here =
      let a = c.args.g in
      subst (HyperOk a.bytes.now a.nodes) (sym c.loop-j.invariant.there) (sound_at (hyper_layout a.bytes.now a.nodes) c.loop-j.j c.loop-j-test.true a.sound.hypers)

  -- where the one behind it stands, which is not behind the middle
  next : c.loop-j.p + hyper_width + number 2 c.args.g.bytes.now (c.loop-j.p + target_count_at) * target_width ≡ hyper_at c.args.g.bytes.now c.args.g.nodes (c.loop-j.j + 1)
  next =
      let L = hyper_layout c.args.g.bytes.now c.args.g.nodes in
      ap L.next c.loop-j.invariant.there ∙ sym (end_next L c.loop-j.j graph_header)

  far : c.loop-j.p + hyper_width + number 2 c.args.g.bytes.now (c.loop-j.p + target_count_at) * target_width + (c.args.g.hypers - (c.loop-j.j + 1)) * hyper_width ≤ c.args.g.middle
  far =
      let a = c.args.g in
      omega (arith, next, hyper_far a.bytes.now a.nodes (c.loop-j.j + 1) a.hypers (omega (arith, c.loop-j-test.true)), a.behind)

  -- its targets are left to link
  opened : {k : ℕ} → k ≡ number 2 c.args.g.bytes.now (c.loop-j.p + target_count_at)
      → Linked c.args.g.bytes.now c.args.g.nodes c.args.g.middle (length c.args.places.now) (c.loop-j.j + 1) (items (target_layout c.args.g.bytes.now c.args.g.nodes) k (c.loop-j.p + hyper_width)) 0 c.loop-j.place c.loop-j.heads c.loop-j.places
  opened is =
      let a = c.args.g in
      let l = c.loop-j in
      linked_open l.invariant.linked _ (ap (λ (q : ℕ). ((hyper_layout a.bytes.now a.nodes).item q).targets) (sym l.invariant.there) ∙ ap (λ (k : ℕ). items (target_layout a.bytes.now a.nodes) k (l.p + hyper_width)) (sym is))

pub overflow_add-p : goal.overflow_add-p
overflow_add-p c = omega (arith, (here (goal.at.overflow_add-p c).In-loop-j).inside)

pub number_at-count-requires : goal.number_at-count-requires
number_at-count-requires c = omega (arith, (here (goal.at.number_at-count-requires c).In-loop-j).inside)

pub link-next-requires : goal.link-next-requires
link-next-requires c =
    let t = (goal.at.link-next-requires c).In-loop-j in
    let is = c.number_at-count.ensures in
    let behind = far t in
    let long = c.loop-j.invariant.linked.long in
    record {
      sound = rw is (here t).sound;
      inside = omega (arith, (here t).inside);
      long = long_own long;
      room = (omega (arith, behind, c.requires.middle_small.0), omega (arith, behind, is, c.loop-j.invariant.counted, c.requires.middle_small.1, long.many));
    }

pub overflow_add-p-in-loop-j-2 : goal.overflow_add-p-in-loop-j-2
overflow_add-p-in-loop-j-2 c = omega (arith, far (goal.at.overflow_add-p-in-loop-j-2 c).In-loop-j, c.number_at-count.ensures, c.link-next.ensures.value, c.requires.middle_small.0)

pub loop-j-preserved : goal.loop-j-preserved
loop-j-preserved c =
    let t = (goal.at.loop-j-preserved c).In-loop-j in
    let is = c.number_at-count.ensures in
    let more = c.link-next.ensures.value in
    record {
      there = omega (arith, next t, is, more);
      counted = omega (arith, c.loop-j.invariant.counted, more);
      heads_long = c.link-next.auto.heads ∙ c.loop-j.invariant.heads_long;
      linked = rw more (c.link-next.ensures.linked _ c.loop-j.j c.loop-j.invariant.there (opened t is));
    }
