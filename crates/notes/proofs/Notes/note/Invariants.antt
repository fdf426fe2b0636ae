-- `Notes::note` meets its contract: the targets at q are left to note.
use Prim.Native.Nat.{◌+◌, ◌-◌}
use Rattle.wire.specs.Layout.{items, Sound}
use Rattle.graph.specs.Layouts.{target_layout}
use Rattle.notes.specs.Index.{Noted, SameCovers}
use Rattle.notes.proofs.Notes.note.Given as goal

abbrev pub invariant-loop : goal.invariant-loop
invariant-loop l =
    let left = l.k - l.counter in
    Sound (target_layout l.s l.n) left l.q × Noted l.s l.n (l.j + 1) (items (target_layout l.s l.n) left l.q) l.self.slots × SameCovers l.initial.self.slots l.self.slots
