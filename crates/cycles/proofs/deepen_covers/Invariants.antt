-- `cycles::deepen_covers` meets its contract: the cover edges passed lead less deep, and no label is deeper than it has to be.
use Prim.Native.Nat.{ℕ, ◌+◌, ◌<◌, ◌≤◌}
use Rattle.wire.specs.Layout.{items}
use Rattle.graph.specs.Layouts.{cover_layout}
use Rattle.cycles.specs.Labels.{label, Within, CoverFalls}
use Rattle.support.proofs.Passing.{Passing}
use Rattle.cycles.proofs.Labels.{Risen}
use Rattle.cycles.proofs.deepen_covers.Given as goal

abbrev pub invariant-loop-i : goal.invariant-loop-i
invariant-loop-i l =
    let L = cover_layout l.s l.n in
    Passing L l.c l.middle (CoverFalls (label l.initial.labels) (label l.labels)) l.i l.p
    × Risen l.n (items L l.c l.middle) CoverFalls l.initial.labels l.labels l.moved
    × ((m : ℕ) → Within l.n l.initial.labels m → (v : ℕ) → v < l.n → label l.labels v + l.i ≤ m + l.c)

abbrev pub decreases-loop-i : goal.decreases-loop-i
decreases-loop-i l = l.i
