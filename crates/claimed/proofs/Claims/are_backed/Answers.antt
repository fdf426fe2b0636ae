-- `Claims::are_backed` meets its contract: the finite nodes passed are marked.
use Rattle.std.proofs.Common.{sym, refl, ap, ◌∙◌, below_more}
use Rattle.lists.proofs.Tests.{clash}
use Rattle.value.specs.Value.{finite}
use Rattle.value.specs.Stored.{meaning}
use Rattle.value.proofs.Stored.{meaning_infinite, meaning_finite}
use Rattle.claimed.proofs.Claims.are_backed.Goals as goal
use Rattle.claimed.proofs.Claims.are_backed.Goals.{else-marks-v-ne1-via-then-marks-v-ne1+else-value, else-marks-v-ne1-via-else-marks-v-ne1}

pub returns-then-are_marked : goal.returns-then-are_marked
returns-then-are_marked c = (λ e v l h f. c.are_marked.ensures.0 c.if-are_marked.true v l h, λ e. clash refl e)

pub returns-then-value : goal.returns-then-value
returns-then-value c =
    let l = c.loop-v in (
      λ e. clash e refl,
      λ e all. c.if-marks-v-ne1.true (all l.v c.loop-v-test.true c.loop-v.auto.v (ap finite (ap meaning (sym c.value.ensures) ∙ meaning_finite c.if-value.true))),
    )

pub loop-v-preserved : goal.loop-v-preserved
loop-v-preserved c = below_more _ _ c.loop-v.invariant (elim c.else-marks-v-ne1.branch [
  | else-marks-v-ne1-via-then-marks-v-ne1+else-value w ↦ λ h f. clash f (ap finite (ap meaning (sym w.value.ensures) ∙ meaning_infinite w.if-value.false))
  | else-marks-v-ne1-via-else-marks-v-ne1 w ↦ λ h f. w.if-marks-v-ne1.false
])
