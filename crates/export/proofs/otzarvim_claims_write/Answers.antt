-- `export::otzarvim_claims_write` meets its contract: the number and the offset of the writer's answer, and the rooms.
use Rattle.export.proofs.otzarvim_claims_write.Goals as goal

pub returns : goal.returns
returns c =
    record {
      answer = c.write-written.result;
      writes = c.write-written.ensures.answer;
      promise = c.write-written.ensures.promise;
      number_is = c.number.ensures;
      offset_is = c.offset.ensures;
    }
