-- `sources::covers_to` meets its contract.
use Prim.Native.Nat.{◌+◌, ◌-◌, ◌*◌}
use mathlib.Core.Path.{refl, sym, ap, subst, ◌∙◌}
use native.Mathlib.Omega.{arith}
use Rattle.wire.specs.Bytes.{number}
use Rattle.graph.specs.Format.{cover_width}
use Rattle.graph.specs.Layouts.{cover_layout, CoverOk}
use Rattle.wire.proofs.Stride.{end_wide}
use Rattle.wire.proofs.Parts.{sound_at}
use Rattle.sources.proofs.covers_to.Goals as goal
use Rattle.sources.proofs.covers_to.Goals.{Else-z-a}

pub returns-then-z-a : goal.returns-then-z-a
returns-then-z-a c = (omega arith, λ j low high. absurd (omega (arith, c.if-z-a.true)))

-- the last is sound
here : (c : Else-z-a) → let a = c.args in CoverOk a.g.bytes.now a.g.nodes (a.g.at + (a.z - 1) * cover_width)
here c =
    let L = cover_layout c.args.g.bytes.now c.args.g.nodes in
    subst (CoverOk c.args.g.bytes.now c.args.g.nodes) (end_wide L 8 (λ at. refl) (c.args.z - 1) c.args.g.at) (sound_at L (c.args.z - 1) (omega (arith, c.if-z-a.false, c.requires.z_le_count)) c.args.g.sound)

pub overflow_sub-at : goal.overflow_sub-at
overflow_sub-at c = omega (arith, c.if-z-a.false)

pub overflow_add-at : goal.overflow_add-at
overflow_add-at c = omega (arith, (here c).inside)

pub number_at-last-requires : goal.number_at-last-requires
number_at-last-requires c = omega (arith, (here (goal.at.number_at-last-requires c).Else-z-a).inside)

pub returns : goal.returns
returns c =
    let s = c.args.g.bytes.now in
    let is = c.number_at-last.ensures ∙ ap (number 2 s) (sym (end_wide (cover_layout s c.args.g.nodes) 8 (λ at. refl) (c.args.z - 1) c.args.g.at)) in (
      omega (arith, c.number_at-last.ensures, (here (goal.at.returns c).Else-z-a).named),
      λ j low high. omega (arith, is, c.requires.climbs j (c.args.z - 1) (omega arith) (omega (arith, c.requires.z_le_count))),
    )
