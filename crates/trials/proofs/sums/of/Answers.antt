use Rattle.std.proofs.Common.{sym, ◌∙◌, arith, drop_of_length-le}
use Rattle.trials.specs.Sums.{after_all, spread}
use Rattle.trials.proofs.Adding.{after_next_item}
use Rattle.trials.proofs.sums.of.Goals as goal

pub loop-item-preserved : goal.loop-item-preserved
loop-item-preserved g c =
    let at = c.loop-item in
    (omega arith, rw c.added_to-sum.ensures (sym (after_next_item g.T.Summed.bytes_of at.sum c.args.s.now at.item-index c.item-item.result (omega arith) c.item-item.is) ∙ at.invariant.1))

pub returns : goal.returns
unfolding after_all spread
returns g c = rw (drop_of_length-le c.args.s.now c.loop-item-test.false) at c.loop-item.invariant.1
