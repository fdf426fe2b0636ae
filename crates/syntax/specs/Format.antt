-- How a formula message is laid out. Every width and position is said here, once; a message that changes is changed here.
use Rattle.std.specs.Prelude.{ℕ, ◌+◌, ◌*◌}
use Rattle.wire.specs.declared.Head.{Head}
use Rattle.wire.specs.declared.Count.{Count}
use Rattle.wire.specs.declared.Width.TheVariants.{One}

-- the header, 7 bytes, version 1, kind 3
abbrev pub formula_header : ℕ
formula_header = 7

abbrev pub formula_head : Head
formula_head = record { length = formula_header; version = 1; kind = 3 }

-- its count: rows (1)
abbrev pub rows_count : Count
rows_count = record { at = 6; width = One; least = 1; most = 64 }

-- a row: operator (1), left (1), right (1), zero (1), bound (4), so 8 bytes
abbrev pub left_at : ℕ
left_at = 1

abbrev pub right_at : ℕ
right_at = left_at + 1

abbrev pub zero_at : ℕ
zero_at = right_at + 1

abbrev pub bound_at : ℕ
bound_at = zero_at + 1

abbrev pub row_width : ℕ
row_width = bound_at + 4

-- where row i stands, behind the header and the rows before it
abbrev pub place_of : ℕ → ℕ
place_of i = formula_header + i * row_width

-- how long the message of f rows is: it ends behind the last
abbrev pub formula_length : ℕ → ℕ
formula_length f = place_of f
