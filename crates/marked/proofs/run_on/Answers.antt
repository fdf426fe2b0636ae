-- `marked::run_on` meets its contract: each turn begins with a round in the first half of the room, and the next, which is another, in the
-- second; `run_noted` goes on from there.
use Prim.Native.Nat.{◌+◌, ◌≤◌}
use mathlib.Core.Path.{◌∙◌}
use native.Mathlib.Omega.{arith}
use lib.ListN.{length}
use Rattle.graph.specs.Layouts.{decoded}
use Rattle.turns.specs.Turns.{AtRound}
use Rattle.turns.proofs.Loop.{from_here, holds_filled, filled_on, ends_settled, ends_spent, full_round, anywhere}
use Rattle.marked.proofs.run_on.Goals as goal
use Rattle.marked.proofs.run_on.Goals.{After-next_round, At-loop-budget}

pub loop-budget-init : goal.loop-budget-init
loop-budget-init c = (c.requires.at_round, c.requires.not_same)

-- the room is as long as it was
long : (c : At-loop-budget) → c.args.g.nodes + c.args.g.nodes ≤ length c.loop-budget.room
long c = rw c.loop-budget.invariant.0.same_length c.requires.n_in_bounds

pub many_changed-requires : goal.many_changed-requires
many_changed-requires c = long c

pub shape_of-room-then-round-budget : goal.shape_of-room-then-round-budget
shape_of-room-then-round-budget c = c.loop-budget.invariant.0.same_length

pub returns-then-round-budget : goal.returns-then-round-budget
unfolding decoded
returns-then-round-budget c = record { value = ends_spent _ c.args.g.ready.closed c.args.g.ready.storable c.loop-budget.invariant.0 c.loop-budget.invariant.1 c.if-round-budget.true; room_after = holds_filled c.requires.n_in_bounds c.loop-budget.invariant.0 }

pub raise-requires : goal.raise-requires
raise-requires c = long (goal.at.raise-requires c).At-loop-budget

pub next_round-requires : goal.next_round-requires
next_round-requires c = rw c.cover_edges.ensures (record { sound = c.args.g.ready.sound.hypers; z_le_count = omega arith; n_in_bounds = rw c.raise.ensures.same_length (long (goal.at.next_round-requires c).At-loop-budget) })

-- the next round stands first, and the one behind it
next : (c : After-next_round) → let a = c.args in
    AtRound (decoded a.g.bytes.now a.g.nodes a.g.hypers a.g.covers) a.budget (c.loop-budget.round + 1) a.room.now c.next_round.new.room
next c =
    let t = c.loop-budget.invariant in
    full_round c.args.g.ready c.args.g.behind t.0 t.1 c.if-round-budget.false c.raise.ensures (rw c.cover_edges.ensures at c.next_round.ensures.done)

pub overflow_add-round : goal.overflow_add-round
overflow_add-round c = omega (arith, (next (goal.at.overflow_add-round c).After-next_round).within, c.ranges.budget)

pub same-requires : goal.same-requires
same-requires c = record { n_in_bounds = rw (next (goal.at.same-requires c).After-next_round).same_length c.requires.n_in_bounds; hi_le_n = omega arith; beside = anywhere }

pub shape_of-room-then-same : goal.shape_of-room-then-same
shape_of-room-then-same c = (next (goal.at.shape_of-room-then-same c).After-next_round).same_length

pub returns-then-same : goal.returns-then-same
unfolding decoded
returns-then-same c = record { value = ends_settled _ c.args.g.ready.closed c.args.g.ready.storable (next (goal.at.returns-then-same c).After-next_round) (c.same.ensures.0 c.if-same.true); room_after = holds_filled c.requires.n_in_bounds (next (goal.at.returns-then-same c).After-next_round) }

pub loop-budget-smaller : goal.loop-budget-smaller
loop-budget-smaller c = omega (arith, (next (goal.at.loop-budget-smaller c).After-next_round).within)

pub loop-budget-preserved : goal.loop-budget-preserved
loop-budget-preserved c = (next (goal.at.loop-budget-preserved c).After-next_round, c.same.ensures.1 c.if-same.false)

pub run_noted-requires : goal.run_noted-requires
run_noted-requires c = record { n_in_bounds = long (goal.at.run_noted-requires c).At-loop-budget; at_round = from_here c.loop-budget.invariant.0 }

pub shape_of-room : goal.shape_of-room
shape_of-room c = c.run_noted.auto.room ∙ c.loop-budget.invariant.0.same_length

pub returns : goal.returns
unfolding decoded
returns c = record { value = c.run_noted.ensures.value; room_after = filled_on c.loop-budget.invariant.0 _ c.run_noted.ensures.room_after }
