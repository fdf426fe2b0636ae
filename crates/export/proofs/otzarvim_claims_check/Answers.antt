-- `export::otzarvim_claims_check` meets its contract: the number, the verdict and the offset of the checker's answer.
use Rattle.export.proofs.otzarvim_claims_check.Goals as goal

pub returns : goal.returns
returns c =
    record {
      answer = c.check-judged.result;
      judges = c.check-judged.ensures.answer;
      promise = c.check-judged.ensures.promise;
      number_is = c.number.ensures;
      verdict_is = c.judged_verdict.ensures;
      offset_is = c.offset.ensures;
    }
