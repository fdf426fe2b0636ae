-- `sizing::every_until` meets its contract: what is summed, and the states left, make the whole.
use Prim.Native.Nat.{ℕ, ◌*◌, ◌-◌, ◌≤◌}
use mathlib.Core.Path.{◌≡◌}
use Rattle.syntax.specs.declared.Quantifier.TheVariants.{Every}
use Rattle.transitions.specs.Views.{model_of}
use Rattle.sizing.specs.declared.Size.{Size}
use Rattle.sizing.specs.Size.{add_size, sizes}
use Rattle.sizing.proofs.Sums.{step_at}
use Rattle.sizing.proofs.every_until.Given as goal

abbrev pub sum_of : (hypers targets most : ℕ) → Size
sum_of hypers targets most = record { hypers = hypers; targets = targets; most = most }

abbrev pub invariant-loop-a : goal.invariant-loop-a
invariant-loop-a l =
    let n = l.table.model.states in
    let z = step_at (model_of l.table.model) Every in
    (l.hypers ≤ l.a * 2) × (l.targets ≤ l.a * 65537) × (add_size (sum_of l.hypers l.targets l.most) (sizes z l.a (n - l.a)) ≡ sizes z 0 n)
