-- What a writer lays into a room for each of the first n numbers: these bytes, wherever they fit; and the bytes of one state's helper.
use Rattle.std.specs.Prelude.{ℕ, ◌+◌, ◌*◌, ◌≤◌, ◌<◌, List, [], ◌∷◌, length}
use Rattle.std.specs.Borrow.{MutBor}
use Rattle.wire.specs.Laid.{Laid}
use Rattle.model.specs.Model.{Model}
use Rattle.syntax.specs.declared.Quantifier.{Quantifier}
use Rattle.reduction.specs.Built.{to, step_edges}
use Rattle.records.specs.Bytes.{hypers_bytes}

-- by what a call asks for and by what it leaves, with a room, a position and a number: it may be called, and the bytes then stand there
pub record PutsEach (pre : MutBor (List ℕ) → ℕ → ℕ → Type 0) (post : MutBor (List ℕ) → ℕ → ℕ → ℕ → MutBor (List ℕ) → Type 0) (bytes : ℕ → List ℕ) (n : ℕ) : Type 0 where
  pub may : (room : MutBor (List ℕ)) (at a : ℕ) → a < n → at + length (bytes a) ≤ length room.now → pre room at a
  pub lays : (room room' : MutBor (List ℕ)) (at a end : ℕ) → a < n → at + length (bytes a) ≤ length room.now → post room at a end room' → Laid room.now at (bytes a) room'.now end

-- the bytes of the helper node of state a at place h, for an until of these operands
abbrev pub helper_of : Model → ℕ → Quantifier → (l r a : ℕ) → List ℕ
helper_of M h q l r a = hypers_bytes (a + M.states * h) ((to 0 (a + M.states * r) ∷ []) ∷ step_edges M q l h a)
