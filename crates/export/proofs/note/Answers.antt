-- `export::note` meets its contract: the tally after the entry, and the number of the answer.
use mathlib.Core.Path.{◌≡◌, ap, ◌∙◌}
use Rattle.refusal.specs.Number.{answer_number}
use Rattle.tally.specs.Entered.{enter_of}
use Rattle.tally.specs.declared.Entered.{Entered}
use Rattle.entries.specs.Returned.{entry_of}
use Rattle.export.proofs.note.Goals as goal

pub returns : goal.returns
returns c =
    let a = c.args in
    let same : c.enter-entered.result ≡ enter_of a.tally (entry_of a.number a.verdict a.rounds) = c.enter-entered.ensures ∙ ap (enter_of a.tally) c.returned.ensures in
    λ i. record { tally = (same i).tally; number = (c.number.ensures ∙ ap (λ (e : Entered). answer_number e.answer) same) i }
