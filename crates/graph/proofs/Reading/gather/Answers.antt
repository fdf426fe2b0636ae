-- `graph::Reading::gather` meets its contract: a turn gathers one target more.
use Rattle.std.proofs.Common.{ℕ, ◌≡◌, ◌∙◌, ◌+◌, ◌-◌, ◌*◌, ◌/◌, max, ap, sym, arith}
use Rattle.graph.specs.Format.{target_width}
use Rattle.graph.specs.Near.{greatest}
use Rattle.graph.proofs.Near.{none_so_far, one_more, greatest_one}
use Rattle.graph.proofs.Reading.gather.Goals as goal

pub loop-so_far-init : goal.loop-so_far-init
loop-so_far-init c = (omega arith, none_so_far _ _ _ _)

pub loop-so_far-preserved : goal.loop-so_far-preserved
loop-so_far-preserved c =
    let so_far = c.loop-so_far.invariant.1 in
    (omega (arith, so_far.reached), one_more _ so_far _ c.both.result (c.both.ensures ∙ sym (greatest_one _ _)) c.max-most.ensures)

pub returns : goal.returns
returns c =
    let from = c.args.from in
    let all = c.loop-so_far.invariant.1 in
    let many : all.many * 1 ≡ (c.args.end - from.at) / target_width = omega (arith, all.reached, c.loop-so_far.invariant.0, c.loop-so_far-test.false) in
    let there : c.loop-so_far.so_far.at ≡ from.at + (c.args.end - from.at) / target_width * target_width = omega (arith, all.reached, many) in
    let most = all.is ∙ ap (λ (k : ℕ). max from.most (greatest c.args.self.bytes.now k from.at)) many in
    λ i. record { at = there i; most = most i }
