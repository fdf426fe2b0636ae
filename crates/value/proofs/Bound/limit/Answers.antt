-- `Bound::limit` meets its contract: a bound is below infinity's number.
use mathlib.Core.Path.{sym, ap, ◌∙◌}
use native.Mathlib.Omega.{arith}
use Rattle.value.specs.Value.{meets}
use Rattle.value.specs.Stored.{meaning}
use Rattle.value.specs.declared.Bound.{Bound}
use Rattle.value.proofs.Stored.{within_number, within_finite}
use Rattle.value.proofs.Bound.limit.Goals as goal

pub returns-in-Within : goal.returns-in-Within
returns-in-Within c k h = within_number k _ (omega arith) ∙ sym (ap (λ (b : Bound). meets b (meaning k)) c.in-Within.is)

pub returns-in-Unbounded : goal.returns-in-Unbounded
returns-in-Unbounded c k h = within_finite k h ∙ sym (ap (λ (b : Bound). meets b (meaning k)) c.in-Unbounded.is)
