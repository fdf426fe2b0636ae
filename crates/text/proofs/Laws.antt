-- A law of the writing of a text: the program's room is never too small. Assumes nothing.
use Prim.Native.Nat.{ℕ, ◌≤◌}
use mathlib.Core.List.{List}
use mathlib.Core.Path.{◌≡◌}
use native.Mathlib.Omega.{arith}
use lib.ListN.{length}
use borrow.Author.Tests.{le-ltb}
use Rattle.wire.specs.Read.{Read, Ok}
use Rattle.syntax.specs.declared.Row.{Row}
use Rattle.syntax.specs.Formula.{root_of}
use Rattle.syntax.specs.WellFormed.{WellFormed}
use Rattle.wording.specs.Text.{text}
use Rattle.text.specs.Written.{written_of}
use Rattle.wording.proofs.Length.{accepted_text_short}

-- a room of 2,048 bytes is never too small
pub room_enough : {p : ℕ} {rows : List Row} (b : List ℕ) → WellFormed p rows → 2048 ≤ length b → ◌≡◌ {A = Read ℕ} (written_of (Ok rows) b) (Ok (length (text (root_of rows))))
unfolding written_of
room_enough {rows = rows} b w h = rw (le-ltb (length b) (length (text (root_of rows))) (omega (arith, accepted_text_short w)))
