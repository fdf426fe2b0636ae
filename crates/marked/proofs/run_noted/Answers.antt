-- `marked::run_noted` meets its contract: each turn begins with round i in the first half of the room, and the next in the second.
use Prim.Native.Nat.{◌+◌, ◌≤◌}
use native.Mathlib.Omega.{arith}
use lib.ListN.{length}
use Rattle.graph.specs.Layouts.{decoded}
use Rattle.notes.proofs.Noting.{noted_none, noted_kept, covers_none, covers_kept}
use Rattle.turns.proofs.Loop.{holds_filled, ends_settled, ends_spent, goes_on}
use Rattle.marked.proofs.Marked.{Marking, marks_stand, longs_stand, took_part, took_besides, besides_all}
use Rattle.marked.proofs.run_noted.Goals as goal
use Rattle.marked.proofs.run_noted.Goals.{After-advance-m, At-loop-noted, Else-i-budget}

pub note_hypers-longs-requires : goal.note_hypers-longs-requires
note_hypers-longs-requires c = record { noted = noted_none _ _ }

pub note_covers-requires : goal.note_covers-requires
note_covers-requires c = record { noted_covers = covers_kept _ _ _ (covers_none _ _ _) c.note_hypers-longs.ensures.covers_kept }

-- the room is as long as it was
long : (c : At-loop-noted) → c.args.g.nodes + c.args.g.nodes ≤ length c.loop-noted.room
long c = rw c.loop-noted.invariant.0.same_length c.requires.n_in_bounds

-- what the turn has at hand
marking : (c : After-advance-m) →
    Marking c.args.g c.note_covers.new.self.slots c.loop-noted.room c.advance-m.new.room c.advance-m.result c.note_hypers-longs.result
marking c =
    let g = c.args.g in
    record {
      few = omega (arith, c.ranges.g);
      noted = noted_kept g.bytes.now g.nodes (rw c.hyperedges.ensures at c.note_hypers-longs.ensures.noted) c.note_covers.ensures.hypers_kept;
      longs = rw c.hyperedges.ensures at c.note_hypers-longs.ensures.longs;
      noted_covers = rw c.cover_edges.ensures at c.note_covers.ensures.noted_covers;
      published = c.advance-m.ensures;
    }

pub loop-noted-init : goal.loop-noted-init
loop-noted-init c = (c.requires.at_round, rw c.whole-span.ensures besides_all)

pub unchanged-requires : goal.unchanged-requires
unchanged-requires c = record { n_in_bounds = long c; besides = c.loop-noted.invariant.1 }

pub advance-m-requires : goal.advance-m-requires
advance-m-requires c = record { n_in_bounds = long (goal.at.advance-m-requires c).At-loop-noted; besides = c.loop-noted.invariant.1; everything = c.all-all.ensures }

pub take_both-span-requires : goal.take_both-span-requires
take_both-span-requires c = record { n_in_bounds = rw c.advance-m.ensures.raised.same_length (long (goal.at.take_both-span-requires c).At-loop-noted); stands = marks_stand (marking (goal.at.take_both-span-requires c).After-advance-m); longs_stand = longs_stand (marking (goal.at.take_both-span-requires c).After-advance-m) }

-- the budget allows a turn more
allows : (c : Else-i-budget) → c.loop-noted.i + 1 ≤ c.args.budget
allows c = omega (arith, c.loop-noted.invariant.0.within, c.if-i-budget.false)

pub overflow_add-i : goal.overflow_add-i
overflow_add-i c = omega (arith, allows (goal.at.overflow_add-i c).Else-i-budget, c.ranges.budget)

pub loop-noted-smaller : goal.loop-noted-smaller
loop-noted-smaller c = omega (arith, allows (goal.at.loop-noted-smaller c).Else-i-budget)

pub loop-noted-preserved : goal.loop-noted-preserved
unfolding decoded
loop-noted-preserved c =
    let ready = c.args.g.ready in
    let w = c.loop-noted.invariant.0 in
    let took = c.take_both-span.ensures in
    let next = goes_on _ ready.closed ready.storable w (c.unchanged.ensures.1 c.if-unchanged.false) c.if-i-budget.false c.advance-m.ensures.raised _ (took_part (marking (goal.at.loop-noted-preserved c).After-advance-m) w took) took.room in
    (next, took_besides (marking (goal.at.loop-noted-preserved c).After-advance-m) w took next)

pub shape_of-room-then-unchanged : goal.shape_of-room-then-unchanged
shape_of-room-then-unchanged c = c.loop-noted.invariant.0.same_length

pub returns-then-unchanged : goal.returns-then-unchanged
unfolding decoded
returns-then-unchanged c = record { value = ends_settled _ c.args.g.ready.closed c.args.g.ready.storable c.loop-noted.invariant.0 (c.unchanged.ensures.0 c.if-unchanged.true); room_after = holds_filled c.requires.n_in_bounds c.loop-noted.invariant.0 }

pub shape_of-room-then-i-budget : goal.shape_of-room-then-i-budget
shape_of-room-then-i-budget c = c.loop-noted.invariant.0.same_length

pub returns-then-i-budget : goal.returns-then-i-budget
unfolding decoded
returns-then-i-budget c = record { value = ends_spent _ c.args.g.ready.closed c.args.g.ready.storable c.loop-noted.invariant.0 (c.unchanged.ensures.1 c.if-unchanged.false) c.if-i-budget.true; room_after = holds_filled c.requires.n_in_bounds c.loop-noted.invariant.0 }
