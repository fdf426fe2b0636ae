-- `transitions::views::AcceptedModel::starts` meets its contract: the table stands for the states that are passed.
use Rattle.std.proofs.Common.{◌≡◌, ◌+◌, sym, refl, ◌∙◌, arith, length-set}
use Rattle.transitions.proofs.Accepted.{states_few, rising}
use Rattle.transitions.proofs.Ranges.{found_none, found_next, found_all}
use Rattle.transitions.proofs.views.AcceptedModel.starts.Goals as goal

pub overflow_mul-dense : goal.overflow_mul-dense
overflow_mul-dense c = omega (arith, states_few c.args.self.holds)

pub loop-a-init : goal.loop-a-init
loop-a-init c = (refl, omega arith, found_none _ _ _ _ refl (rising c.args.self.holds))

pub past_state-first-requires : goal.past_state-first-requires
past_state-first-requires c = (c.loop-a.invariant.1, c.loop-a.invariant.2.rest)

pub offset_bounds-table-i : goal.offset_bounds-table-i
offset_bounds-table-i c = omega (arith, states_few c.args.self.holds)

pub bounds-table-i : goal.bounds-table-i
bounds-table-i c = omega (arith, states_few c.args.self.holds)

pub loop-a-preserved : goal.loop-a-preserved
loop-a-preserved c =
    let l = c.loop-a in
    let few = states_few c.args.self.holds in (
      l.invariant.0 ∙ sym (length-set l.table (l.a + 1) c.past_state-first.result),
      c.past_state-first.ensures.1,
      found_next l.invariant.2 c.past_state-first.result (omega (arith, l.invariant.0)) l.invariant.1 c.past_state-first.ensures.2,
    )

pub returns : goal.returns
returns c =
    let l = c.loop-a in
    let n = c.args.self.states in
    let end : l.a ≡ n = omega arith in
    (l.invariant.0, found_all (rw end at l.invariant.2))
