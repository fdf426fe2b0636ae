-- `decimals::Writer::word` meets its contract: the word is copied into a part of the room that is as long.
use Rattle.std.proofs.Common.{refl, arith}
use Rattle.decimals.proofs.Writing.{copied, wrote}
use Rattle.decimals.proofs.Writer.word.Goals as goal

pub returns : goal.returns
returns c =
    wrote refl (record {
      inside = c.requires;
      room_is = rw c.copy_from_slice.ensures.after (copied _ _ _ _ (omega arith));
      next_is = refl;
    })
