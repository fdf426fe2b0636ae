-- `sources::hypers_to` meets its contract.
use Prim.Native.Nat.{◌<◌}
use mathlib.Core.Path.{sym, ap, subst, ◌∙◌}
use native.Mathlib.Omega.{arith}
use Rattle.wire.specs.Bytes.{number}
use Rattle.graph.specs.Layouts.{hyper_layout, HyperOk}
use Rattle.wire.proofs.Parts.{sound_at}
use Rattle.sources.proofs.hypers_to.Goals as goal
use Rattle.sources.proofs.hypers_to.Goals.{Then-z-g}

pub returns-then-z-a : goal.returns-then-z-a
returns-then-z-a c = (omega arith, λ j low high. absurd (omega (arith, c.if-z-a.true)))

-- the next is sound
here : (c : Then-z-g) → let a = c.args in HyperOk a.g.bytes.now a.g.nodes a.past
here c =
    let L = hyper_layout c.args.g.bytes.now c.args.g.nodes in
    let some : c.args.a < c.args.z = omega (arith, c.if-z-a.false) in
    subst (HyperOk c.args.g.bytes.now c.args.g.nodes) (sym (c.requires.past_value some)) (sound_at L c.args.z c.if-z-g.true c.args.g.sound)

pub number_at-next-requires : goal.number_at-next-requires
number_at-next-requires c = omega (arith, (here (goal.at.number_at-next-requires c).Then-z-g).inside)

pub returns-then-z-g : goal.returns-then-z-g
returns-then-z-g c =
    let some : c.args.a < c.args.z = omega (arith, c.if-z-a.false) in
    let is = c.number_at-next.ensures ∙ ap (number 2 c.args.g.bytes.now) (c.requires.past_value some) in (
      omega (arith, c.number_at-next.ensures, (here (goal.at.returns-then-z-g c).Then-z-g).named),
      λ j low high. omega (arith, is, c.requires.climbs j c.args.z (omega arith) c.if-z-g.true),
    )

pub returns : goal.returns
returns c = (
  omega arith,
  λ j low high. (sound_at (hyper_layout c.args.g.bytes.now c.args.g.nodes) j (omega (arith, c.requires.z_le_count)) c.args.g.sound).named,
)
