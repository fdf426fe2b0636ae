-- `graph::Reading::greatest_of_four` meets its contract: the pairs together are four.
use native.Mathlib.Omega.{arith}
use Rattle.graph.proofs.Near.{greatest_four}
use Rattle.graph.proofs.Reading.greatest_of_four.Goals as goal

pub returns : goal.returns
returns c =
    let four = greatest_four c.args.self.bytes.now c.args.at in
    omega (arith, four, c.max.ensures, c.max-front.ensures, c.max-back.ensures, c.both.ensures, c.both-2.ensures, c.both-3.ensures, c.both-4.ensures)
