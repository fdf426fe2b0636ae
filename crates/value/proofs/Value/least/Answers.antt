-- `Value::least` meets its contract.
use native.Mathlib.Omega.{arith}
use Rattle.value.proofs.Stored.{least_min}
use Rattle.value.proofs.Value.least.Goals as goal

pub returns-then-self-other : goal.returns-then-self-other
returns-then-self-other c = let a = c.args in omega (arith, least_min a.self.0 a.other.0 (omega arith) (omega arith))

pub returns-else-self-other : goal.returns-else-self-other
returns-else-self-other c = let a = c.args in omega (arith, least_min a.self.0 a.other.0 (omega arith) (omega arith))
