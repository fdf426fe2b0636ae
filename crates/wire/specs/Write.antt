-- How messages are written: the records one after another, behind the start that all messages share.
use Rattle.std.specs.Prelude.{ℕ, ◌+◌, List, [], ◌∷◌, ◌++◌, length}
use Rattle.wire.specs.Bytes.{bytes}
use Rattle.wire.specs.Start.{start_width}
use Rattle.wire.specs.declared.Head.{Head}

-- the writings of the records of a list, one after another
unfoldable pub write_all : {A : Type 0} → (A → List ℕ) → List A → List ℕ
write_all w [] = []
write_all w (a ∷ l) = w a ++ write_all w l

-- the total length, itself included (4 bytes), the version and the kind (a byte each)
abbrev pub write_start : Head → (long : ℕ) → List ℕ
write_start head long = bytes 4 long ++ bytes 1 head.version ++ bytes 1 head.kind

-- the start, and the rest
unfoldable pub message : Head → List ℕ → List ℕ
message head rest = write_start head (start_width + length rest) ++ rest
