-- `build::count_nodes` meets its contract: there are at most 128 rows and untils, so nothing wraps.
use Prim.Native.Nat.{ℕ, ◌+◌, ◌*◌, ◌≤◌}
use mathlib.Core.Path.{ap}
use native.Mathlib.Nat.{mul-le-mul_left}
use native.Mathlib.Omega.{arith}
use Rattle.build.proofs.Writing.{untils_few}
use Rattle.build.proofs.count_nodes.Goals as goal
use Rattle.build.proofs.count_nodes.Goals.{After-count_untils}

places_few : (c : After-count_untils) → c.args.f.rows + c.count_untils.result ≤ 128
places_few c = omega (arith, c.count_untils.ensures, untils_few c.args.f.holds, c.args.f.holds.rows_fit)

pub overflow_add-result : goal.overflow_add-result
overflow_add-result c = omega (arith, places_few c)

pub overflow_mul-result : goal.overflow_mul-result
overflow_mul-result c =
    let a = c.args in
    let all : a.n * (a.f.rows + c.count_untils.result) ≤ a.n * 128 = mul-le-mul_left a.n (places_few c) in
    omega (arith, c.requires)

pub returns : goal.returns
returns c = let a = c.args in ap (λ (u : ℕ). a.n * (a.f.rows + u)) c.count_untils.ensures
