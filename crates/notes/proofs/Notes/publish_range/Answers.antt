-- `Notes::publish_range` meets its contract: those below v are brought up.
use native.Mathlib.Omega.{arith}
use Rattle.notes.proofs.Publishing.{published_alike}
use Rattle.notes.proofs.Notes.publish_range.Goals as goal

pub loop-v-preserved : goal.loop-v-preserved
loop-v-preserved c =
    let l = c.loop-v in
    (omega (arith, c.block-k.ensures), l.invariant.1, λ b₀ room d. published_alike (l.invariant.2 b₀ room d) _ (c.alike.ensures.0 c.if-not-alike.false))
