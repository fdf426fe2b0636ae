use Rattle.std.proofs.Common.{◌≡◌, ◌+◌, take, length, ◌∙◌, ap, arith}
use Rattle.std.proofs.lemmas.Slice.{take-put_mid}
use Rattle.trials.specs.Lines.{more}
use Rattle.trials.proofs.Gathering.{gathered}
use Rattle.trials.proofs.line.Line.text.Goals as goal

pub returns : goal.returns
returns c =
    let l = c.self.inside in
    let copied = c.copy_from_slice.ensures in
    let end : l.len + c.min-k.result ≡ l.len + length c.copy_from_slice.new.self = ap (λ n. l.len + n) (search arith) in
    take-put_mid l.len _ l.bytes c.copy_from_slice.new.self _ end (omega arith)
    ∙ rw (copied.after) (gathered l.bytes c.args.s.now l.len c.min-k.result c.self.invariant.0 c.self.invariant.1 c.min-k.ensures)
    ∙ ap (λ t. more t c.args.s.now) c.self.view_is
