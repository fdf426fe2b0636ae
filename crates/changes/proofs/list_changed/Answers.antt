-- `changes::list_changed` meets its contract: a node that changed is one more in the list, and there is room for it.
use mathlib.Core.Path.{refl, ◌∙◌}
use native.Mathlib.Omega.{arith}
use lib.ListN.{length-set}
use Rattle.changes.proofs.Listing.{listed_none, listed_few, listed_same, listed_more}
use Rattle.changes.proofs.list_changed.Goals as goal
use Rattle.changes.proofs.list_changed.Goals.{then-room-v, else-room-v}

pub loop-v-init : goal.loop-v-init
loop-v-init c = record { as_long = refl; listed = listed_none (omega (arith, c.requires.room_for_all)) c.requires.fallen }

pub offset_bounds-nodes-many : goal.offset_bounds-nodes-many
offset_bounds-nodes-many c = omega (arith, listed_few c.loop-v.invariant.listed)

pub bounds-nodes-many : goal.bounds-nodes-many
bounds-nodes-many c = omega (arith, listed_few c.loop-v.invariant.listed)

pub overflow_add-many : goal.overflow_add-many
overflow_add-many c = omega (arith, listed_few c.loop-v.invariant.listed)

pub loop-v-preserved : goal.loop-v-preserved
loop-v-preserved c =
    let d = c.loop-v.invariant.listed in
    let long = c.loop-v.invariant.as_long in
    elim c.if-room-v.branch [
      | then-room-v w ↦ rw (w.nodes-is, w.many-is) (record { as_long = length-set c.loop-v.nodes _ _ ∙ long; listed = listed_more d c.loop-v-test.true w.if-room-v.true (omega (arith, listed_few d, d.long)) })
      | else-room-v w ↦ rw (w.nodes-is, w.many-is) (record { as_long = long; listed = listed_same d (omega (arith, w.if-room-v.false)) })
    ]
