-- `wire::number_at` meets its contract: after i turns n is the number that the first i bytes make, below 256 ^ i.
use Rattle.std.proofs.Common.{◌+◌, ◌^◌, ◌≤◌, refl, pow-suc, add-one, arith, lit<}
use native.Mathlib.Nat.{pow-le-pow_right}
use Rattle.wire.specs.Bytes.{number}
use Rattle.wire.proofs.Bytes.{number_more}
use Rattle.wire.proofs.Fields.{width_le}
use Rattle.wire.proofs.number_at.Goals as goal
use Rattle.wire.proofs.number_at.Goals.{In-loop-i}

-- a power of 256 below the last stays below 256 ^ 3
small : (c : In-loop-i) → 256 ^ c.loop-i.i ≤ 256 ^ 3
small c = pow-le-pow_right {n = 256} (lit< tt) {i = c.loop-i.i} {j = 3} (omega (arith, width_le c.args.width))

pub loop-i-init : goal.loop-i-init
unfolding number
loop-i-init c = (refl, lit< tt)

pub overflow_mul-n : goal.overflow_mul-n
overflow_mul-n c = omega (arith, small (goal.at.overflow_mul-n c).In-loop-i)

pub overflow_add-n-in-loop-i : goal.overflow_add-n-in-loop-i
overflow_add-n-in-loop-i c = omega (arith, c.type_inv.s (c.args.at + c.loop-i.i), small (goal.at.overflow_add-n-in-loop-i c).In-loop-i)

pub loop-i-preserved : goal.loop-i-preserved
loop-i-preserved c = (rw number_more (cc), rw (add-one, pow-suc) (omega (arith, c.type_inv.s (c.args.at + c.loop-i.i))))
