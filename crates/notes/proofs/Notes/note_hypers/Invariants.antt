-- `Notes::note_hypers` meets its contract: the first j hyperedges are noted, or long.
use Prim.Native.Nat.{ℕ, ◌+◌, ◌*◌}
use mathlib.Core.List.{List, []}
use mathlib.Core.Bool.{false}
use mathlib.Core.Path.{◌≡◌}
use Rattle.wire.specs.Layout.{end}
use Rattle.graph.specs.Format.{graph_header, hyper_width, target_width}
use Rattle.graph.specs.Layouts.{hyper_layout}
use Rattle.notes.specs.Index.{long_for, Noted, Longs, SameCovers}
use Rattle.notes.proofs.Notes.note_hypers.Given as goal

-- so far: the next stands there, the stride is that of a count, and a count that may come again is not that of a long one
pub record Noting (s : List ℕ) (n j p before stride : ℕ) : Type 0 where
  pub stands : p ≡ end (hyper_layout s n) j graph_header
  pub wide : stride ≡ hyper_width + before * target_width
  pub short : long_for n before ≡ false

abbrev pub invariant-loop-j : goal.invariant-loop-j
invariant-loop-j l =
    Noting l.s l.n l.j l.p l.before l.stride × Noted l.s l.n l.j [] l.self.slots × Longs l.s l.n l.j l.longs × SameCovers l.initial.self.slots l.self.slots
