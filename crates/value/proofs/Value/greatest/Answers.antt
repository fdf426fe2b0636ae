-- `Value::greatest` meets its contract.
use native.Mathlib.Omega.{arith}
use Rattle.value.proofs.Stored.{greatest_max}
use Rattle.value.proofs.Value.greatest.Goals as goal

pub returns-then-self-other : goal.returns-then-self-other
returns-then-self-other c = let a = c.args in omega (arith, greatest_max a.self.0 a.other.0 (omega arith) (omega arith))

pub returns-else-self-other : goal.returns-else-self-other
returns-else-self-other c = let a = c.args in omega (arith, greatest_max a.self.0 a.other.0 (omega arith) (omega arith))
