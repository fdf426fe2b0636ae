-- The start that all messages share: the total length, itself included (4 bytes), the version and the kind (a byte each).
use Rattle.std.specs.Prelude.{ℕ, ◌+◌, List, length, ◌==◌, nat_le}
use Rattle.refusal.specs.declared.Refusal.TheVariants.{Length, Version}
use Rattle.refusal.specs.Number.{nowhere}
use Rattle.wire.specs.Read.{Read, Ok, ◌>>=◌, ◌>>◌, demand, field}
use Rattle.wire.specs.declared.Head.{Head}

-- where the version and the kind stand, and where a header goes on behind them
abbrev pub version_at : ℕ
version_at = 4

abbrev pub kind_at : ℕ
kind_at = version_at + 1

abbrev pub start_width : ℕ
start_width = kind_at + 1

-- a byte that may be this number only, else VERSION
unfoldable pub only : List ℕ → (at allowed : ℕ) → Read ℕ
only s at allowed = do
  n ← field 1 s at
  demand (n == allowed) Version at
  Ok n

-- in this order: the bytes of the header, the length field, the version, the kind
unfoldable pub read_start : List ℕ → Head → Read Unit
read_start s head = do
  demand (nat_le head.length (length s)) Length nowhere
  total ← field 4 s 0
  demand (total == length s) Length nowhere
  v ← only s version_at head.version
  k ← only s kind_at head.kind
  Ok tt
