-- `Notes::publish_block` meets its contract: those below v are brought up, whatever was brought up before the block.
use Prim.Native.Nat.{ℕ, ◌+◌, ◌≤◌}
use mathlib.Core.List.{List}
use mathlib.Core.Path.{◌≡◌}
use lib.ListN.{length}
use Rattle.notes.specs.Index.{Published}
use Rattle.notes.proofs.Notes.publish_block.Given as goal

abbrev pub invariant-loop-v : goal.invariant-loop-v
invariant-loop-v l =
    (length l.room ≡ length l.initial.room)
    × ((b₀ : List ℕ) → l.n + l.n ≤ length b₀ → Published l.n l.from l.self.slots b₀ l.initial.room l.initial.m → Published l.n l.v l.self.slots b₀ l.room l.m)
