-- `message::put_each` meets its contract: what is written for the numbers left makes the whole.
use Rattle.std.proofs.Common.{refl}
use Rattle.wire.proofs.Spans.{span_begun, span_done, span_fits, span_then}
use Rattle.build.proofs.message.put_each.Goals as goal

pub loop-a-init : goal.loop-a-init
loop-a-init g c = λ bytes each fits. span_begun bytes _ _ _ refl fits

pub put-next-requires : goal.put-next-requires
put-next-requires g c =
    let asked = c.requires in
    asked.1.may _ _ _ c.loop-a-test.true (span_fits (c.loop-a.invariant asked.0 asked.1 asked.2) c.loop-a-test.true refl)

pub loop-a-preserved : goal.loop-a-preserved
loop-a-preserved g c = λ bytes each fits.
    let left = c.loop-a.invariant bytes each fits in
    let below = c.loop-a-test.true in
    span_then left below refl (each.lays _ _ _ _ _ below (span_fits left below refl) c.put-next.ensures)

pub returns : goal.returns
returns g c = λ bytes each fits. span_done (c.loop-a.invariant bytes each fits) c.loop-a-test.false
