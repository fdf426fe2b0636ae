-- `Claims::all_backed` meets its contract: the finite nodes of the blocks passed are marked.
use Rattle.std.proofs.Common.{refl, arith}
use Rattle.lists.proofs.Tests.{clash}
use Rattle.claimed.proofs.Blocks.{below_block}
use Rattle.claimed.proofs.Claims.all_backed.Goals as goal

pub loop-v-init : goal.loop-v-init
loop-v-init c = (omega arith, λ v l. absurd (omega arith))

pub returns-then-not-are_backed : goal.returns-then-not-are_backed
returns-then-not-are_backed c = (
  λ e. clash e refl,
  λ e all. c.are_backed.ensures.1 c.if-not-are_backed.true (λ v l h. all v (omega arith)),
)

pub loop-v-preserved : goal.loop-v-preserved
loop-v-preserved c = (omega arith, below_block _ _ _ c.loop-v.invariant.1 (c.are_backed.ensures.0 c.if-not-are_backed.false))

pub returns : goal.returns
returns c = (λ e v l. c.loop-v.invariant.1 v (omega arith), λ e. clash refl e)
