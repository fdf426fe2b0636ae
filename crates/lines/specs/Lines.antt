-- The report: numbers one on a line, in decimal.
use Rattle.std.specs.Prelude.{ℕ, List, [], ◌∷◌, ◌++◌, cond, ltb, length, drop, Ok, Err}
use Rattle.refusal.specs.Number.{unplaced}
use Rattle.refusal.specs.declared.Refusal.TheVariants.{Room}
use Rattle.wire.specs.Read.{Read}
use Rattle.decimals.specs.Decimal.{long_decimal}

-- one number on a line
unfoldable pub lines : List ℕ → List ℕ
lines [] = []
lines (n ∷ ns) = long_decimal n ++ (10 ∷ lines ns)

-- the returned length: a refusal has length 0
abbrev pub reported_length : Read ℕ → ℕ
reported_length (Ok n) = n
reported_length (Err e) = 0

-- ROOM if the lines don't fit; else their length is returned
unfoldable pub reported_of : (numbers room : List ℕ) → Read ℕ
reported_of numbers room = cond (ltb (length room) (length (lines numbers))) (Err (unplaced Room)) (Ok (length (lines numbers)))

-- the bytes past them stay; a refusal leaves the room as it came
unfoldable pub report_room : (numbers room : List ℕ) → List ℕ
report_room numbers room = cond (ltb (length room) (length (lines numbers))) room (lines numbers ++ drop (length (lines numbers)) room)
