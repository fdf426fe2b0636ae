-- Bytes laid into a room at a position.
use Rattle.std.specs.Prelude.{◌≡◌, ℕ, ◌+◌, ◌≤◌, List, ◌++◌, length, take, drop}

-- b with the bytes s at a position
unfoldable pub laid : List ℕ → ℕ → List ℕ → List ℕ
laid b at s = take at b ++ s ++ drop (at + length s) b

-- the room b became b' by the bytes s, laid in at a position where they fit; next is the position past them
pub record Laid (b : List ℕ) (at : ℕ) (s b' : List ℕ) (next : ℕ) : Type 0 where
  pub inside : at + length s ≤ length b
  pub room_is : b' ≡ laid b at s
  pub next_is : next ≡ at + length s
