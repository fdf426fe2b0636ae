-- `Notes::publish_block` meets its contract: those below v are brought up, whatever was brought up before the block.
use Prim.Native.Nat.{◌<◌}
use native.Mathlib.Omega.{arith}
use lib.ListN.{length-set}
use Rattle.notes.proofs.Publishing.{published_same, published_more}
use Rattle.notes.proofs.Notes.publish_block.Goals as goal
use Rattle.notes.proofs.Notes.publish_block.Goals.{then-room-v, else-room-v}

pub loop-v-preserved : goal.loop-v-preserved
loop-v-preserved c =
    let l = c.loop-v in
    let below : l.v < c.args.n = omega (arith, c.loop-v-test.true, c.requires.from_le_stop.1) in
    elim c.if-room-v.branch [
      | then-room-v w ↦ rw (w.room-is, w.m-is) (
        simp length-set l.invariant.0,
        λ b₀ h d. rw w.more-m.ensures (published_more (l.invariant.1 b₀ h d) below h w.slot.result w.slot.ensures.0),
      )
      | else-room-v w ↦ rw (w.room-is, w.m-is) (l.invariant.0, λ b₀ h d. published_same (l.invariant.1 b₀ h d) (omega (arith, w.if-room-v.false)))
    ]
