-- `targets::below_four` meets its contract: the least of four is that of the two pairs.
use Prim.Native.Nat.{◌+◌, ◌*◌, ◌≤◌, min}
use mathlib.Core.Path.{◌≡◌, sym, ap₂, ◌∙◌}
use native.Mathlib.Omega.{arith}
use lib.ListN.{length}
use Rattle.wire.specs.Layout.{items}
use Rattle.graph.specs.Format.{target_width}
use Rattle.graph.specs.Layouts.{target_layout}
use Rattle.halves.specs.Held.{held}
use Rattle.targets.specs.Below.{below}
use Rattle.targets.proofs.Below.{sound_inside, sound_four, below_four}
use Rattle.targets.proofs.below_four.Goals as goal
use Rattle.targets.proofs.below_four.Goals.{After-below_infinite-d, Start}

-- the four end within the bytes
inside : (c : Start) → c.args.at + 4 * target_width ≤ length c.args.s.now
inside c = omega (arith, sound_inside c.args.s.now c.args.n 4 c.args.at c.requires.sound)

pub overflow_add-second : goal.overflow_add-second
overflow_add-second c = omega (arith, inside (goal.at.overflow_add-second c).Start)

pub overflow_add-third : goal.overflow_add-third
overflow_add-third c = omega (arith, inside (goal.at.overflow_add-third c).Start)

pub overflow_add-fourth : goal.overflow_add-fourth
overflow_add-fourth c = omega (arith, inside (goal.at.overflow_add-fourth c).Start)

pub below_infinite-a-requires : goal.below_infinite-a-requires
below_infinite-a-requires c = record { target_ok = (sound_four _ _ c.requires.sound).0; n_in_bounds = c.requires.n_in_bounds }

pub below_infinite-b-requires : goal.below_infinite-b-requires
below_infinite-b-requires c = record { target_ok = (sound_four _ _ c.requires.sound).1; n_in_bounds = c.requires.n_in_bounds }

pub below_infinite-c-requires : goal.below_infinite-c-requires
below_infinite-c-requires c = record { target_ok = (sound_four _ _ c.requires.sound).2; n_in_bounds = c.requires.n_in_bounds }

pub below_infinite-d-requires : goal.below_infinite-d-requires
below_infinite-d-requires c = record { target_ok = (sound_four _ _ c.requires.sound).3; n_in_bounds = c.requires.n_in_bounds }

-- what the four give, from what each of them gives
four : (c : After-below_infinite-d) → let a = c.args in below (held a.x.now) (items (target_layout a.s.now a.n) 4 a.at)
    ≡ min (min c.below_infinite-a.result c.below_infinite-b.result) (min c.below_infinite-c.result c.below_infinite-d.result)
four c =
    let a = c.args in
    omega (
      arith,
      below_four a.s.now a.n (held a.x.now) a.at,
      c.below_infinite-a.ensures,
      c.below_infinite-b.ensures,
      c.below_infinite-c.ensures,
      c.below_infinite-d.ensures,
    )

pub returns-then-a-eq0 : goal.returns-then-a-eq0
returns-then-a-eq0 c = omega (arith, four (goal.at.returns-then-a-eq0 c).After-below_infinite-d, c.if-a-eq0.true)

pub returns-then-b-eq0 : goal.returns-then-b-eq0
returns-then-b-eq0 c = omega (arith, four (goal.at.returns-then-b-eq0 c).After-below_infinite-d, c.if-b-eq0.true)

pub returns-then-c-eq0 : goal.returns-then-c-eq0
returns-then-c-eq0 c = omega (arith, four (goal.at.returns-then-c-eq0 c).After-below_infinite-d, c.if-c-eq0.true)

pub returns-then-d-eq0 : goal.returns-then-d-eq0
returns-then-d-eq0 c = omega (arith, four (goal.at.returns-then-d-eq0 c).After-below_infinite-d, c.if-d-eq0.true)

pub returns : goal.returns
returns c =
    c.min.ensures ∙ ap₂ min c.min-front.ensures c.min-back.ensures ∙ sym (four (goal.at.returns c).After-below_infinite-d)
