-- `sources::covers_from` meets its contract.
use Prim.Native.Nat.{◌+◌, ◌*◌}
use mathlib.Core.Path.{refl, sym, ap, subst, ◌∙◌}
use native.Mathlib.Omega.{arith}
use Rattle.wire.specs.Bytes.{number}
use Rattle.graph.specs.Format.{cover_width}
use Rattle.graph.specs.Layouts.{cover_layout, CoverOk}
use Rattle.wire.proofs.Stride.{end_wide}
use Rattle.wire.proofs.Parts.{sound_at}
use Rattle.sources.proofs.covers_from.Goals as goal
use Rattle.sources.proofs.covers_from.Goals.{Then-a-z}

-- the first is sound
here : (c : Then-a-z) → let a = c.args in CoverOk a.g.bytes.now a.g.nodes (a.g.at + a.a * cover_width)
here c =
    let L = cover_layout c.args.g.bytes.now c.args.g.nodes in
    subst (CoverOk c.args.g.bytes.now c.args.g.nodes) (end_wide L 8 (λ at. refl) c.args.a c.args.g.at) (sound_at L c.args.a (omega (arith, c.if-a-z.true, c.requires.z_le_count)) c.args.g.sound)

pub overflow_add-at : goal.overflow_add-at
overflow_add-at c = omega (arith, (here c).inside)

pub number_at-requires : goal.number_at-requires
number_at-requires c = omega (arith, (here (goal.at.number_at-requires c).Then-a-z).inside)

pub returns-then-a-z : goal.returns-then-a-z
returns-then-a-z c =
    let s = c.args.g.bytes.now in
    let is = c.number_at.ensures ∙ ap (number 2 s) (sym (end_wide (cover_layout s c.args.g.nodes) 8 (λ at. refl) c.args.a c.args.g.at)) in (
      omega (arith, c.number_at.ensures, (here (goal.at.returns-then-a-z c).Then-a-z).named),
      λ j low high. omega (arith, is, c.requires.climbs c.args.a j low (omega (arith, c.requires.z_le_count))),
    )

pub returns : goal.returns
returns c = (omega arith, λ j low high. absurd (omega (arith, c.if-a-z.false)))
