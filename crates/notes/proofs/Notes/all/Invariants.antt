-- `Notes::all` meets its contract: the slots so far are marked.
use Rattle.notes.specs.Index.{Everything}
use Rattle.notes.proofs.Notes.all.Given as goal

abbrev pub invariant-loop-marks : goal.invariant-loop-marks
invariant-loop-marks l = Everything l.self.slots l.marks-index l.all
