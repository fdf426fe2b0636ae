use Rattle.std.proofs.Common.{sym, ◌∙◌, arith, drop_of_length-le}
use Rattle.trials.specs.Sums.{after_all, claimed_values}
use Rattle.trials.proofs.Adding.{claimed_next, claimed_past}
use Rattle.trials.proofs.sums.of_claimed.Goals as goal
use Rattle.trials.proofs.sums.of_claimed.Goals.{then-at-lt8, else-at-lt8}

pub loop-at-preserved : goal.loop-at-preserved
loop-at-preserved c =
    let at = c.loop-at in
    let s = c.args.s.now in (
      omega arith,
      elim c.if-at-lt8.branch [
        | then-at-lt8 w ↦ rw (w.sum-is, w.add-sum.ensures) (sym (claimed_next at.sum s at.at (omega arith) w.if-at-lt8.true) ∙ at.invariant.1)
        | else-at-lt8 w ↦ rw w.sum-is (sym (claimed_past at.sum s at.at (omega arith) w.if-at-lt8.false) ∙ at.invariant.1)
      ],
    )

pub returns : goal.returns
unfolding after_all claimed_values
returns c = rw (drop_of_length-le c.args.s.now c.loop-at-test.false) at c.loop-at.invariant.1
