-- `export::otzarvim_rounds_solve` meets its contract: the number and the count of how the rounds ended.
use mathlib.Core.Path.{ap, subst, ◌∙◌}
use Rattle.refusal.specs.Number.{answer_offset}
use Rattle.turns.specs.Outcome.{rounds_number, rounds_count}
use Rattle.rounds.specs.Promise.{Promise}
use Rattle.export.proofs.otzarvim_rounds_solve.Goals as goal

pub returns : goal.returns
returns c = record { value = c.number.ensures ∙ ap rounds_number c.solve-outcome.ensures.answer; room_after = c.solve-outcome.ensures.room; count_after = c.count.ensures ∙ ap rounds_count c.solve-outcome.ensures.answer; offset_after = c.offset.ensures ∙ ap answer_offset c.solve-outcome.ensures.answer; promise = subst (Promise _ _ _ _) c.solve-outcome.ensures.answer c.solve-outcome.ensures.promise }
