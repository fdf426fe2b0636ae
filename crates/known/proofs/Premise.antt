-- Why a count of at most n asks that no cycle passes through a cover edge: T12's graph has such a cycle, and count 4 of 3 nodes.
-- Assumes nothing.
use Prim.Native.Nat.{◌<◌}
use mathlib.Core.List.{[], ◌∷◌}
use mathlib.Core.Path.{◌≡◌, refl}
use native.Mathlib.Omega.{arith}
use Rattle.lists.specs.Lists.{any, all, up_to, first_from}
use Rattle.lists.proofs.Places.{first, second}
use Rattle.value.specs.declared.Bound.TheVariants.{Within}
use Rattle.rules.specs.Rounds.{rounds, round, best, worst, covered}
use Rattle.rules.specs.Count.{count, unchanged}
use Rattle.rules.specs.Walks.{CoverCycle, stay, onward, along}
use Rattle.graph.specs.Stored.{ruled}
use Rattle.reduction.specs.Built.{to, hyper}
use Rattle.known.specs.Table.{cover, T12}

-- from 1, the target of the cover edge, its second hyperedge leads back to 0
pub T12-cycle : CoverCycle (ruled T12)
T12-cycle = record { edge = cover 0 (Within 5) 1; there = first; back = onward stay (along (hyper 1 (to 0 0 ∷ [])) (to 0 0) second first refl refl) }

pub T12-count : count (ruled T12) ≡ 4
unfolding rounds round best worst covered count unchanged first_from any all up_to
T12-count = refl

-- so its count is above n
pub T12-above : (ruled T12).nodes < count (ruled T12)
T12-above = rw T12-count (omega arith)
