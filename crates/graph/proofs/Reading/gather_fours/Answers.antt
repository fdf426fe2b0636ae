-- `graph::Reading::gather_fours` meets its contract: a turn gathers one four more.
use Rattle.std.proofs.Common.{ℕ, ◌≡◌, ◌∙◌, ◌+◌, ◌*◌, max, ap, arith}
use Rattle.graph.specs.Format.{target_width}
use Rattle.graph.specs.Names.{fours}
use Rattle.graph.specs.Near.{greatest}
use Rattle.graph.proofs.Near.{none_so_far, one_more}
use Rattle.graph.proofs.Reading.gather_fours.Goals as goal

pub loop-so_far-init : goal.loop-so_far-init
loop-so_far-init c = (omega arith, none_so_far _ _ _ _)

pub loop-so_far-preserved : goal.loop-so_far-preserved
loop-so_far-preserved c =
    let so_far = c.loop-so_far.invariant.1 in
    (omega (arith, so_far.reached), one_more _ so_far _ c.greatest_of_four.result c.greatest_of_four.ensures c.max-most.ensures)

pub returns : goal.returns
returns c =
    let from = c.args.from in
    let all = c.loop-so_far.invariant.1 in
    let many : all.many * 4 ≡ fours from.at c.args.end * 4 = omega (arith, all.reached, c.loop-so_far.invariant.0, c.loop-so_far-test.false) in
    let there : c.loop-so_far.so_far.at ≡ from.at + fours from.at c.args.end * 4 * target_width = omega (arith, all.reached, many) in
    let most = all.is ∙ ap (λ (k : ℕ). max from.most (greatest c.args.self.bytes.now k from.at)) many in
    λ i. record { at = there i; most = most i }
