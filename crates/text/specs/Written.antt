-- What the writing of a formula's text answers, and what it leaves in the room.
use Rattle.std.specs.Prelude.{ℕ, List, ◌++◌, cond, length, drop, ltb}
use Rattle.refusal.specs.Number.{unplaced}
use Rattle.refusal.specs.declared.Refusal.TheVariants.{Room}
use Rattle.wire.specs.Read.{Read, Ok, Err}
use Rattle.syntax.specs.declared.Row.{Row}
use Rattle.syntax.specs.Formula.{root_of}
use Rattle.wording.specs.Text.{text}

-- the returned length: any refusal has length 0
abbrev pub written_length : Read ℕ → ℕ
written_length (Ok n) = n
written_length (Err e) = 0

-- the formula is checked first; then ROOM if the text doesn't fit; the text's length is returned
unfoldable pub written_of : Read (List Row) → List ℕ → Read ℕ
written_of (Ok rows) b =
    cond (ltb (length b) (length (text (root_of rows)))) (Err (unplaced Room)) (Ok (length (text (root_of rows))))
written_of (Err e) b = Err e

-- the bytes past the text stay; a refusal leaves the room as it came
unfoldable pub text_room : Read (List Row) → List ℕ → List ℕ
text_room (Ok rows) b =
    cond (ltb (length b) (length (text (root_of rows)))) b (text (root_of rows) ++ drop (length (text (root_of rows))) b)
text_room (Err e) b = b
