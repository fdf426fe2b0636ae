-- `Notes::all` meets its contract: the slots so far are marked.
use Rattle.notes.proofs.Publishing.{everything_more}
use Rattle.notes.proofs.Notes.all.Goals as goal

pub loop-marks-preserved : goal.loop-marks-preserved
loop-marks-preserved c = rw c.more-all.ensures (everything_more c.loop-marks.invariant c.loop-marks-test.true)
