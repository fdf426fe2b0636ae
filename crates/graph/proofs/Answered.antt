-- The reading from the answer. Assumes nothing.
use Rattle.std.proofs.Common.{◌≡◌, sym}
use Rattle.refusal.specs.declared.Fault.{Fault}
use Rattle.wire.specs.Read.{Read, Ok, Err, ◌>>=◌}
use Rattle.wire.proofs.Reading.{never}
use Rattle.rules.specs.Graph.{Graph}
use Rattle.graph.specs.Answers.{checked}

pub checked_refused : (x : Read Graph) {f : Fault} → checked x ≡ Err f → x ≡ Err f
unfolding checked ◌>>=◌
checked_refused (Ok g) e = absurd (never (sym e))
checked_refused (Err a) e = cc
