-- `tally::below_most` meets its contract: what is left and the counts behind make what the most and the counts make.
use Rattle.std.proofs.Common.{◌≡◌, ◌≤◌, length, sym, ap, rules, arith, lt-ltb, le-ltb, drop_of_length-le}
use Rattle.tally.specs.Tally.{most_accepted, together}
use Rattle.tally.proofs.Counting.{together_drop}
use Rattle.tally.proofs.below_most.Goals as goal

pub returns-then-left-count : goal.returns-then-left-count
returns-then-left-count c =
    let counts = c.args.counts in
    sym (le-ltb (together counts) most_accepted (omega (arith, together_drop counts c.loop-count.count-index (omega arith))))

pub loop-count-preserved : goal.loop-count-preserved
loop-count-preserved c =
    (omega arith, omega arith, omega (arith, together_drop c.args.counts c.loop-count.count-index (omega arith)))

pub returns : goal.returns
unfolding together
returns c =
    let counts = c.args.counts in
    let size : length counts ≡ 13 = search rules in
    let all : length counts ≤ c.loop-count.count-index = omega arith in
    sym (lt-ltb (together counts) most_accepted (omega (arith, ap together (drop_of_length-le counts all))))
