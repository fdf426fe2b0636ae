-- `export::otzarvim_search` meets its contract: each part of the answer, and the words.
use mathlib.Core.Path.{ap, subst, ◌∙◌}
use Rattle.refusal.specs.Number.{answer_number, answer_offset}
use Rattle.search.specs.Answer.{answer_verdict, answer_count}
use Rattle.search.specs.Promise.{Promise}
use Rattle.export.specs.Results.{found_number}
use Rattle.export.proofs.otzarvim_search.Goals as goal

pub returns : goal.returns
returns c = record { value = c.number.ensures ∙ ap answer_number c.decide-answer.ensures.value; words_after = c.decide-answer.ensures.words_after; verdict_after = c.found_number.ensures ∙ ap found_number (c.verdict.ensures ∙ ap answer_verdict c.decide-answer.ensures.value); count_after = c.count.ensures ∙ ap answer_count c.decide-answer.ensures.value; offset_after = c.offset.ensures ∙ ap answer_offset c.decide-answer.ensures.value; promise = subst (Promise _ _ _ _) c.decide-answer.ensures.value c.decide-answer.ensures.promise }
