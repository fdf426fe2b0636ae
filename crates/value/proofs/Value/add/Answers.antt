-- `Value::add` meets its contract: past the test the sum is below infinity's number.
use native.Mathlib.Omega.{arith}
use Rattle.value.proofs.Stored.{stored_plus}
use Rattle.value.proofs.Value.add.Goals as goal

pub returns-then-wide-self : goal.returns-then-wide-self
returns-then-wide-self c = let a = c.args in omega (arith, stored_plus a.weight a.self.0 (omega arith))

pub returns : goal.returns
returns c = let a = c.args in omega (arith, stored_plus a.weight a.self.0 (omega arith))
