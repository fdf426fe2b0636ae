-- `targets::worst_of_many` meets its contract: the least over the fours, and over those left, is how far the greatest stays below infinity.
use Prim.Native.Nat.{ℕ, ◌+◌, ◌-◌, ◌*◌, ◌/◌}
use mathlib.Core.List.{List}
use mathlib.Core.Path.{◌≡◌, refl, ap, ◌∙◌}
use native.Mathlib.Omega.{arith}
use Rattle.value.specs.Stored.{infinite}
use Rattle.wire.specs.Layout.{items, Sound}
use Rattle.rules.specs.Graph.{Target}
use Rattle.graph.specs.Format.{target_width}
use Rattle.graph.specs.Layouts.{target_layout}
use Rattle.halves.specs.Held.{held}
use Rattle.targets.specs.Below.{below}
use Rattle.targets.proofs.Below.{sound_inside, sound_parts, below_fours, below_worst, below_le}
use Rattle.targets.proofs.worst_of_many.Goals as goal
use Rattle.targets.proofs.worst_of_many.Goals.{After-least_of_fours-among, After-least_with-least, Start}

-- the targets
abbrev given : Start → List Target
given c = items (target_layout c.args.s.now c.args.n) c.args.k c.args.at

-- the fours are sound, and so are the targets left
sound : (c : Start) → let a = c.args in let L = target_layout a.s.now a.n in
    Sound L (a.k / 4 * 4) a.at × Sound L (a.k - a.k / 4 * 4) (a.at + a.k / 4 * (4 * target_width))
sound c = let a = c.args in sound_parts _ _ (a.k / 4 * 4) a.k a.at (a.k - a.k / 4 * 4) (a.at + a.k / 4 * (4 * target_width)) (omega arith) (omega arith) c.requires.sound

pub overflow_add-left : goal.overflow_add-left
overflow_add-left c = omega (arith, sound_inside _ _ (c.args.k / 4 * 4) c.args.at (sound (goal.at.overflow_add-left c).Start).0)

pub least_of_fours-among-requires : goal.least_of_fours-among-requires
least_of_fours-among-requires c = record { whole_number = (c.args.k / 4, refl, (sound (goal.at.least_of_fours-among-requires c).Start).0); n_in_bounds = c.requires.n_in_bounds }

-- what the fours give
fours : (c : After-least_of_fours-among) → let a = c.args in
    c.least_of_fours-among.result ≡ below (held a.x.now) (items (target_layout a.s.now a.n) (a.k / 4 * 4) a.at)
fours c = c.least_of_fours-among.ensures (c.args.k / 4) refl

pub returns-then-among-eq0 : goal.returns-then-among-eq0
returns-then-among-eq0 c =
    omega (arith, below_worst (held c.args.x.now) (given (goal.at.returns-then-among-eq0 c).Start), below_fours c.args.s.now c.args.n c.args.k c.args.at (held c.args.x.now), fours (goal.at.returns-then-among-eq0 c).After-least_of_fours-among, c.if-among-eq0.true)

pub overflow_add-end : goal.overflow_add-end
overflow_add-end c = omega (arith, sound_inside _ _ c.args.k c.args.at c.requires.sound)

pub least_with-least-requires : goal.least_with-least-requires
least_with-least-requires c = record { whole_number = (c.args.k - c.args.k / 4 * 4, omega arith, (sound (goal.at.least_with-least-requires c).Start).1); n_in_bounds = c.requires.n_in_bounds }

-- what both loops give
least : (c : After-least_with-least) → let a = c.args in c.least_with-least.result ≡ below (held a.x.now) (items (target_layout a.s.now a.n) a.k a.at)
least c =
    let a = c.args in
    omega (
      arith,
      c.least_with-least.ensures (a.k - a.k / 4 * 4) (omega arith),
      c.least_of_fours-among.ensures (a.k / 4) refl,
      below_fours a.s.now a.n a.k a.at (held a.x.now),
    )

pub overflow_sub-most : goal.overflow_sub-most
overflow_sub-most c = omega (arith, least (goal.at.overflow_sub-most c).After-least_with-least, below_le (held c.args.x.now) (given (goal.at.overflow_sub-most c).Start))

pub returns : goal.returns
returns c = ap (λ (v : ℕ). infinite - v) (least (goal.at.returns c).After-least_with-least) ∙ below_worst (held c.args.x.now) (given (goal.at.returns c).Start)
