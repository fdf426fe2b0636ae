-- `links::link_covers` meets its contract: the next cover edge is sound, and there is a place for it.
use Prim.Native.Nat.{ℕ, ◌+◌, ◌≤◌}
use mathlib.Core.Path.{◌≡◌, refl, sym, ap, subst, ◌∙◌}
use lib.ListN.{length-set}
use native.Mathlib.Omega.{arith}
use Rattle.wire.specs.Bytes.{number}
use Rattle.wire.specs.Layout.{Sound}
use Rattle.wire.proofs.Layouts.{end_none}
use Rattle.wire.proofs.Stride.{end_wide}
use Rattle.wire.proofs.Parts.{end_next, sound_at}
use Rattle.graph.specs.Format.{cover_target_at, cover_width}
use Rattle.graph.specs.Layouts.{cover_layout, CoverOk}
use Rattle.links.proofs.Linking.{linked_cover, linked_all}
use Rattle.links.proofs.link_covers.Goals as goal
use Rattle.links.proofs.link_covers.Goals.{In-loop-j}

pub loop-j-init : goal.loop-j-init
loop-j-init c = record { all = omega arith; there = sym (end_none _ 0 _ refl); heads_long = refl; linked = c.requires.linked }

module _ (c : In-loop-j) where
  -- the next cover edge is sound
  here : CoverOk c.args.g.bytes.now c.args.g.nodes c.loop-j.edge
  here =
      let a = c.args.g in
      let sound = subst (Sound (cover_layout a.bytes.now a.nodes) a.covers) (sym a.behind) a.sound.covers in
      subst (CoverOk a.bytes.now a.nodes) (sym c.loop-j.invariant.there) (sound_at (cover_layout a.bytes.now a.nodes) c.loop-j.j (omega (arith, c.loop-j-test.true)) sound)

  -- and no position of them is too large
  low : c.loop-j.edge + cover_width ≤ 65535
  low =
      let a = c.args.g in
      omega (arith, c.loop-j.invariant.there, end_wide (cover_layout a.bytes.now a.nodes) 8 (λ at. refl) c.loop-j.j a.middle, c.loop-j-test.true, c.requires.room.0)

pub cover_ends-ends-requires : goal.cover_ends-ends-requires
cover_ends-ends-requires c = omega (arith, (here (goal.at.cover_ends-ends-requires c).In-loop-j).inside)

pub offset_bounds-heads-target : goal.offset_bounds-heads-target
offset_bounds-heads-target c = omega (arith, c.cover_ends-ends.ensures.2)

pub offset_bounds-heads-target-in-loop-j : goal.offset_bounds-heads-target-in-loop-j
offset_bounds-heads-target-in-loop-j c = omega (arith, c.cover_ends-ends.ensures.2)

pub bounds-heads-target : goal.bounds-heads-target
bounds-heads-target c = omega (arith, (here (goal.at.bounds-heads-target c).In-loop-j).target_named, c.cover_ends-ends.ensures.1)

pub overflow_cast-places : goal.overflow_cast-places
overflow_cast-places c = omega (arith, low (goal.at.overflow_cast-places c).In-loop-j)

pub bounds-heads-target-in-loop-j : goal.bounds-heads-target-in-loop-j
bounds-heads-target-in-loop-j c = omega (arith, (here (goal.at.bounds-heads-target-in-loop-j c).In-loop-j).target_named, c.cover_ends-ends.ensures.1)

pub overflow_add-edge : goal.overflow_add-edge
overflow_add-edge c = omega (arith, low (goal.at.overflow_add-edge c).In-loop-j)

pub loop-j-preserved : goal.loop-j-preserved
loop-j-preserved c =
    let a = c.args.g in
    let l = c.loop-j in
    let L = cover_layout a.bytes.now a.nodes in
    let target = (here (goal.at.loop-j-preserved c).In-loop-j).target_named in
    record {
      all = omega (arith, l.invariant.all);
      there = ap L.next l.invariant.there ∙ sym (end_next L l.j a.middle);
      heads_long = length-set l.heads _ _ ∙ l.invariant.heads_long;
      linked = linked_cover l.invariant.linked (omega (arith, l.invariant.linked.long.many, l.invariant.all, c.requires.room.1)) _ (c.cover_ends-ends.ensures.1 ∙ ap (λ (p : ℕ). number 2 a.bytes.now (p + cover_target_at)) l.invariant.there) (omega (arith, target, c.cover_ends-ends.ensures.1)) _ l.invariant.there _ (refl, refl, c.cover_ends-ends.ensures.0);
    }

pub returns : goal.returns
returns c =
    let l = c.loop-j in
    let all : l.j ≡ c.args.g.covers = omega arith in
    rw all at (linked_all l.invariant.linked (omega (arith, l.invariant.linked.long.many, l.invariant.all, c.requires.room.1)))
