-- `records::near_width` meets its contract, arm by arm.
use mathlib.Core.Path.{refl}
use Rattle.records.specs.Bytes.{near_width}
use Rattle.records.proofs.near_width.Goals as goal

pub returns-in-Some : goal.returns-in-Some
unfolding near_width
returns-in-Some c = rw c.in-Some.is refl

pub returns-in-Every : goal.returns-in-Every
unfolding near_width
returns-in-Every c = rw c.in-Every.is refl
