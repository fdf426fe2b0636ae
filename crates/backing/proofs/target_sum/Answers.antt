-- `backing::target_sum` meets its contract.
use Rattle.std.proofs.Common.{ℕ, ◌*◌, ap, ap₂, ◌∙◌}
use Rattle.value.specs.Value.{plus}
use Rattle.value.specs.Stored.{stored, meaning}
use Rattle.wire.specs.Bytes.{number}
use Rattle.wire.specs.Field.{long_width}
use Rattle.support.specs.Claims.{claim_width}
use Rattle.backing.proofs.target_sum.Goals as goal

pub returns : goal.returns
returns c =
    c.add.ensures
    ∙ ap₂ (λ (w v : ℕ). stored (plus w (meaning v))) c.number_at-weight.ensures
    (c.value.ensures ∙ ap (λ (v : ℕ). number long_width c.args.claims.bytes.now (v * claim_width)) c.number_at-node.ensures)
