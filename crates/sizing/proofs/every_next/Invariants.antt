-- `sizing::every_next` meets its contract: what is summed, and the states left, make the whole.
use Prim.Native.Nat.{ℕ, ◌*◌, ◌-◌, ◌≤◌}
use mathlib.Core.Path.{◌≡◌}
use Rattle.syntax.specs.declared.Quantifier.TheVariants.{Every}
use Rattle.transitions.specs.Views.{model_of}
use Rattle.sizing.specs.declared.Size.{Size}
use Rattle.sizing.specs.Size.{add_size, sizes}
use Rattle.sizing.proofs.Sums.{next_at}
use Rattle.sizing.proofs.every_next.Given as goal

abbrev pub sum_of : (a targets most : ℕ) → Size
sum_of a targets most = record { hypers = a; targets = targets; most = most }

abbrev pub invariant-loop-a : goal.invariant-loop-a
invariant-loop-a l =
    let z = next_at (model_of l.table.model) Every l.action l.bound in
    (l.targets ≤ l.a * 65535) × (add_size (sum_of l.a l.targets l.most) (sizes z l.a (l.n - l.a)) ≡ sizes z 0 l.n)
