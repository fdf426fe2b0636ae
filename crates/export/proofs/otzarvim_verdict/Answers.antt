-- `export::otzarvim_verdict` meets its contract: each part of the answer, and both rooms.
use mathlib.Core.Path.{ap, subst, ◌∙◌}
use Rattle.refusal.specs.Number.{answer_offset}
use Rattle.settling.specs.Answer.{verdict_number, answer_number, answer_verdict, answer_count, answer_length}
use Rattle.states.specs.Promise.{Promise}
use Rattle.export.proofs.otzarvim_verdict.Goals as goal

pub returns : goal.returns
returns c =
    let answer = c.decide-answer.ensures in
    record {
      value = c.number.ensures ∙ ap answer_number answer.value;
      bytes_after = answer.bytes_after;
      values_after = answer.values_after;
      verdict_after = c.verdict_number.ensures ∙ ap verdict_number (c.verdict_in.ensures ∙ ap answer_verdict answer.value);
      count_after = c.count.ensures ∙ ap answer_count answer.value;
      length_after = c.length.ensures ∙ ap answer_length answer.value;
      offset_after = c.offset.ensures ∙ ap answer_offset answer.value;
      promise = subst (Promise _ _ _ _ _ _ _ _) answer.value answer.promise;
    }
