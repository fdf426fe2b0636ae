-- `sources::hypers_from` meets its contract.
use mathlib.Core.Path.{sym, ap, subst, ◌∙◌}
use native.Mathlib.Omega.{arith}
use Rattle.wire.specs.Bytes.{number}
use Rattle.graph.specs.Layouts.{hyper_layout, HyperOk}
use Rattle.wire.proofs.Parts.{sound_at}
use Rattle.sources.proofs.hypers_from.Goals as goal
use Rattle.sources.proofs.hypers_from.Goals.{Then-a-z}

-- the first is sound
here : (c : Then-a-z) → let a = c.args in HyperOk a.g.bytes.now a.g.nodes a.at
here c =
    let L = hyper_layout c.args.g.bytes.now c.args.g.nodes in
    subst (HyperOk c.args.g.bytes.now c.args.g.nodes) (sym (c.requires.at_value c.if-a-z.true)) (sound_at L c.args.a (omega (arith, c.if-a-z.true, c.requires.z_le_count)) c.args.g.sound)

pub number_at-requires : goal.number_at-requires
number_at-requires c = omega (arith, (here (goal.at.number_at-requires c).Then-a-z).inside)

pub returns-then-a-z : goal.returns-then-a-z
returns-then-a-z c =
    let s = c.args.g.bytes.now in
    let is = c.number_at.ensures ∙ ap (number 2 s) (c.requires.at_value c.if-a-z.true) in (
      omega (arith, c.number_at.ensures, (here (goal.at.returns-then-a-z c).Then-a-z).named),
      λ j low high. omega (arith, is, c.requires.climbs c.args.a j low (omega (arith, c.requires.z_le_count))),
    )

pub returns : goal.returns
returns c = (omega arith, λ j low high. absurd (omega (arith, c.if-a-z.false)))
