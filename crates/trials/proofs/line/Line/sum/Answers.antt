use Rattle.std.proofs.Common.{ℕ, ap, ◌∙◌, arith}
use Rattle.io.specs.Digits.{last_digits}
use Rattle.trials.proofs.Gathering.{more_field, eight}
use Rattle.trials.proofs.line.Line.sum.Goals as goal

pub returns : goal.returns
returns c =
    let hex = c.hex-k in
    let n = c.args.n in
    more_field c.args.self _ c.byte.ensures c.text.ensures
    (hex.ensures.digits ∙ ap (λ (k : ℕ). last_digits 16 k n) (eight n hex.result (omega arith) hex.ensures.len))
