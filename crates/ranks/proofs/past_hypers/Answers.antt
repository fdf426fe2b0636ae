-- `ranks::past_hypers` meets its contract: what is left ends where all do.
use Rattle.std.proofs.Common.{◌≡◌, ◌+◌, ◌-◌, ◌*◌, arith}
use Rattle.wire.specs.Bytes.{number}
use Rattle.graph.specs.Format.{target_count_at}
use Rattle.graph.specs.Layouts.{hyper_layout, HyperOk}
use Rattle.support.proofs.Passing.{passing_all, passing_here, passing_turn, passing_end}
use Rattle.ranks.proofs.past_hypers.Goals as goal
use Rattle.ranks.proofs.past_hypers.Goals.{In-loop}

-- the next hyperedge is sound
here : (c : In-loop) → HyperOk c.args.s.now c.args.n c.loop.p
here c = passing_here c.loop.invariant (omega (arith, c.loop-test.true))

pub loop-init : goal.loop-init
loop-init c = let all : c.args.h - 0 ≡ c.args.h = omega arith in rw all (passing_all c.requires)

pub loop-preserved : goal.loop-preserved
loop-preserved c =
    let k : c.number_at-k.result ≡ number 2 c.args.s.now (c.loop.p + target_count_at) = c.number_at-k.ensures in
    let next : c.loop.p + (4 + c.number_at-k.result * 6) ≡ (hyper_layout c.args.s.now c.args.n).next c.loop.p = omega arith in
    let fewer : c.args.h - (c.loop.counter + 1) ≡ c.args.h - c.loop.counter - 1 = omega arith in
    rw (fewer, next) (passing_turn c.loop.invariant (omega (arith, c.loop-test.true)) (λ e d. d) tt)

pub returns : goal.returns
returns c = passing_end c.loop.invariant (omega (arith, c.loop-test.false))
