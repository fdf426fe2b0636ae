-- `decimals::decimal_length` meets its contract: all digits but the last are those of the number's tenth part.
use Rattle.std.proofs.Common.{◌/◌, ap, length, arith}
use Rattle.decimals.proofs.Decimal.{decimal_length, front_none, front_some, front_length}
use Rattle.decimals.proofs.+decimal_length.Goals as goal

pub overflow_add-result : goal.overflow_add-result
overflow_add-result t c = omega (arith, decimal_length 10 (c.args.n / 10))

pub returns-then-n-lt10 : goal.returns-then-n-lt10
returns-then-n-lt10 t c = let n = c.args.n in omega (arith, front_length 8 n (omega arith), ap length (front_none 10 n (omega arith)))

pub returns-else-n-lt10 : goal.returns-else-n-lt10
returns-else-n-lt10 t c = let n = c.args.n in omega (arith, front_length 8 n (omega arith), ap length (front_some 10 n (omega arith)))
