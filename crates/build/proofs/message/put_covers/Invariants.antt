-- `message::put_covers` meets its contract: the cover edges of the rows that are left make the whole.
use Rattle.syntax.specs.Format.{place_of}
use Rattle.transitions.specs.Views.{rows_of}
use Rattle.records.specs.Bytes.{covers_of}
use Rattle.build.proofs.Covers.{Covering}
use Rattle.build.proofs.message.put_covers.Given as goal

abbrev pub invariant-loop-r : goal.invariant-loop-r
invariant-loop-r l = Covering l.n l.f.bytes.now l.f.rows l.initial.room l.at (covers_of l.n (rows_of l.f)) l.room l.next (place_of l.r) l.h l.r
