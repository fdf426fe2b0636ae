-- `Notes::note_covers` meets its contract: the first j are noted.
use Prim.Native.Nat.{◌+◌, ◌*◌}
use mathlib.Core.Path.{◌≡◌}
use Rattle.graph.specs.Format.{cover_width}
use Rattle.notes.specs.Index.{NotedCovers, SameHypers}
use Rattle.notes.proofs.Notes.note_covers.Given as goal

abbrev pub invariant-loop-j : goal.invariant-loop-j
invariant-loop-j l =
    (l.p ≡ l.g.at + l.j * cover_width) × NotedCovers l.g.bytes.now l.g.nodes l.j l.g.at l.self.slots × SameHypers l.initial.self.slots l.self.slots
