-- `sizing::message_length` meets its contract: within the limits no sum is large.
use native.Mathlib.Omega.{arith}
use Rattle.sizing.proofs.Limits.{counts_within}
use Rattle.sizing.proofs.message_length.Goals as goal

pub overflow_mul-result : goal.overflow_mul-result
overflow_mul-result c = omega (arith, counts_within c.args.covers c.args.size c.requires)

pub overflow_add-result : goal.overflow_add-result
overflow_add-result c = omega (arith, counts_within c.args.covers c.args.size c.requires)

pub overflow_mul-result-2 : goal.overflow_mul-result-2
overflow_mul-result-2 c = omega (arith, counts_within c.args.covers c.args.size c.requires)

pub overflow_add-result-2 : goal.overflow_add-result-2
overflow_add-result-2 c = omega (arith, counts_within c.args.covers c.args.size c.requires)

pub overflow_mul-result-3 : goal.overflow_mul-result-3
overflow_mul-result-3 c = omega (arith, counts_within c.args.covers c.args.size c.requires)

pub overflow_add-result-3 : goal.overflow_add-result-3
overflow_add-result-3 c = omega (arith, counts_within c.args.covers c.args.size c.requires)
