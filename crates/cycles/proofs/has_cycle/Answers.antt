-- `cycles::has_cycle` meets its contract: labels that no pass raises leave no cycle through a cover edge, and labels that pass n raises show one.
use Rattle.std.proofs.Common.{suc, ◌+◌, ◌-◌, ◌≤◌, ◌≡◌, refl, arith}
use Rattle.lists.proofs.Tests.{clash}
use Rattle.graph.specs.Layouts.{decoded}
use Rattle.cycles.specs.Labels.{Within}
use Rattle.cycles.proofs.Labels.{still_free, risen_cycle, labelled_none, labelled_more}
use Rattle.cycles.proofs.has_cycle.Goals as goal
use Rattle.cycles.proofs.has_cycle.Goals.{At-loop}

-- no label is near the end of its 32 bits
small : (c : At-loop) → c.loop.counter ≤ 4097 → Within c.args.graph.nodes c.loop.labels 4294901760
unfolding decoded
small c h v l = omega (arith, c.loop.invariant.1.within v l)

pub loop-init : goal.loop-init
loop-init c = (omega arith, labelled_none _)

pub deepen-requires : goal.deepen-requires
deepen-requires c = record {
  scannable = c.args.graph.ready.sound;
  middle_value = c.args.graph.behind;
  n_bound = (c.requires.few.0, c.loop.invariant.1.long);
  c_bound = c.requires.few.1;
  within = small (goal.at.deepen-requires c).At-loop (omega (arith, c.loop-test.true, c.requires.few.0));
}

pub returns-then-not-deepen : goal.returns-then-not-deepen
returns-then-not-deepen c = (λ e. clash e refl, λ e. still_free _ c.args.graph.ready.closed c.deepen.ensures.pass c.if-not-deepen.true)

pub loop-preserved : goal.loop-preserved
unfolding decoded
loop-preserved c =
    let e : c.loop.counter + 1 - 1 ≡ suc (c.loop.counter - 1) = omega (arith, c.loop.auto.counter) in
    (omega (arith, c.loop-test.true), rw e (labelled_more _ c.args.graph.ready.closed c.loop.invariant.1 c.deepen.ensures.pass c.requires.few.1 c.deepen.ensures.by_index))

pub deepen-requires-2 : goal.deepen-requires-2
deepen-requires-2 c = record {
  scannable = c.args.graph.ready.sound;
  middle_value = c.args.graph.behind;
  n_bound = (c.requires.few.0, c.loop.invariant.1.long);
  c_bound = c.requires.few.1;
  within = small (goal.at.deepen-requires-2 c).At-loop (omega (arith, c.loop.invariant.0, c.requires.few.0));
}

pub returns : goal.returns
unfolding decoded
returns c = (
  λ e. risen_cycle _ c.args.graph.ready.closed (c.loop.counter - 1) (omega (arith, c.loop-test.false, c.loop.auto.counter)) c.loop.invariant.1.low c.loop.invariant.1.high
      c.deepen-2.ensures.pass e,
  λ e. still_free _ c.args.graph.ready.closed c.deepen-2.ensures.pass e,
)
