-- `sizing::count_held` meets its contract: the states counted, and those left, make the whole.
use Prim.Native.Nat.{◌-◌, ◌≤◌}
use mathlib.Core.Path.{◌≡◌}
use Rattle.transitions.specs.Views.{model_of}
use Rattle.sizing.specs.Size.{add_size, bare_size, sizes}
use Rattle.sizing.proofs.Sums.{leaf_at}
use Rattle.sizing.proofs.count_held.Given as goal

abbrev pub invariant-loop-a : goal.invariant-loop-a
invariant-loop-a l =
    let z = leaf_at (model_of l.m) l.i in
    (l.held ≤ l.a) × (add_size (bare_size l.held) (sizes z l.a (l.m.states - l.a)) ≡ sizes z 0 l.m.states)
