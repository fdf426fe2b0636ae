-- `transitions::views::Out::of` meets its contract: the fields of any bytes fit.
use Rattle.std.proofs.Common.{arith}
use Rattle.transitions.proofs.Accepted.{any_read}
use Rattle.transitions.proofs.views.Out.of.Goals as goal

pub invariant_of-result : goal.invariant_of-result
invariant_of-result c =
    let a = c.args in
    record { reads = any_read a.bytes.now a.states a.first a.many (λ i. omega (arith, c.type_inv.bytes i)) (omega (arith, c.requires)) }
