-- `marked::take_both` meets its contract.
use mathlib.Core.Logic.{inl}
use mathlib.Core.Path.{sym, subst, ◌∙◌}
use native.Mathlib.Omega.{arith}
use Rattle.marked.specs.Took.{Within}
use Rattle.notes.specs.declared.Marks.{Marks}
use Rattle.marked.proofs.Taking.{took_both, took_fewer, took_spread, joined_stands, joined_within}
use Rattle.marked.proofs.take_both.Goals as goal

pub take_range-requires : goal.take_range-requires
take_range-requires c = record { n_in_bounds = c.requires.n_in_bounds; stands = rw c.more.ensures (joined_stands c.args.m c.args.longs c.requires.stands c.requires.longs_stand c.if-m-longs.true c.if-longs-m.true) }

pub shape_of-room-then-longs-m : goal.shape_of-room-then-longs-m
shape_of-room-then-longs-m c = c.take_range.ensures.room.same_length

pub returns-then-longs-m : goal.returns-then-longs-m
returns-then-longs-m c =
    let a = c.args in
    took_fewer c.take_range.ensures
    (λ j k. subst (λ (x : Marks). Within x.first x.last j) (sym c.more.ensures) (joined_within a.m a.longs j k))
    (λ j k. subst (λ (x : Marks). Within x.low x.high j) (sym c.more.ensures) (omega (arith, k.0), omega (arith, k.1)))

pub take_range-far-requires : goal.take_range-far-requires
take_range-far-requires c = record { n_in_bounds = rw c.take_range-near.ensures.room.same_length c.requires.n_in_bounds; stands = c.requires.longs_stand }

pub shape_of-room : goal.shape_of-room
shape_of-room c = c.take_range-far.ensures.room.same_length ∙ c.take_range-near.ensures.room.same_length

pub returns : goal.returns
returns c =
    took_spread c.join.ensures (took_fewer (took_both c.take_range-near.ensures c.take_range-far.ensures) (λ j k. k) (λ j k. inl k))
