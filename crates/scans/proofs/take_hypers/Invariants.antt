-- `scans::take_hypers` meets its contract: what is left to do to each next number makes it what it is to be.
use Prim.Native.Nat.{ℕ, ◌+◌, ◌*◌, ◌≤◌}
use mathlib.Core.Path.{◌≡◌}
use lib.ListN.{get_or}
use Rattle.value.specs.Stored.{infinite}
use Rattle.graph.specs.Format.{hyper_width, target_width}
use Rattle.scans.proofs.Scan.{Left}
use Rattle.scans.proofs.take_hypers.Given as goal

abbrev pub invariant-loop-left : goal.invariant-loop-left
invariant-loop-left g l =
    Left l.s l.n 0 l.n l.k l.at l.initial.room l.room l.left l.p × ((v : ℕ) → get_or l.room v 0 ≤ infinite) × (l.stride ≡ hyper_width + l.last * target_width)

abbrev pub decreases-loop-left : goal.decreases-loop-left
decreases-loop-left g l = l.left
