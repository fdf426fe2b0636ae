-- `Value::within` meets its contract: a value is within the bound where its stored number is at most the limit.
use native.Mathlib.Omega.{arith}
use Rattle.value.proofs.Value.within.Goals as goal

pub returns : goal.returns
returns c = c.limit.ensures _ (omega arith)
