-- What is written into a lent room.
use Rattle.std.specs.Prelude.{◌≡◌, ℕ, ◌+◌, ◌≤◌, List, length}
use Rattle.wire.specs.Laid.{Laid}
use Rattle.decimals.specs.declared.Writer.{Writer}

-- the bytes s fit what is left of the room
abbrev pub RoomFor : Writer → List ℕ → Type 0
RoomFor w s = w.at + length s ≤ length w.room.now

-- the writer w became w' by the bytes s: they are laid into its room at its position, which is now past them; the room is as long as before
pub record Wrote (w : Writer) (s : List ℕ) (w' : Writer) : Type 0 where
  pub same_room : w'.room.ghost_name ≡ w.room.ghost_name
  pub same_length : length w'.room.now ≡ length w.room.now
  pub laid : Laid w.room.now w.at s w'.room.now w'.at
