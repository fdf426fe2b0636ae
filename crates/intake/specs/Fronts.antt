-- What an error leaves that comes part of the way through a reading or a writing.
use Rattle.std.specs.Prelude.{ℕ, ◌≤◌, List, length, take}
use Rattle.std.specs.Io.KnownBytes.{Consumes, Appends}
use Rattle.std.specs.declared.option.Option.{Option}

-- what the reader gave stands at the front of the room, and it gave nothing else
abbrev pub ConsumesFront : Option (List ℕ) → Option (List ℕ) → List ℕ → Type 0
ConsumesFront old new room = (n : ℕ) × (n ≤ length room) × Consumes old new (take n room)

-- the writer took some front of the bytes, which may be none of them or all, and nothing else
abbrev pub AppendsFront : Option (List ℕ) → Option (List ℕ) → List ℕ → Type 0
AppendsFront old new bytes = (n : ℕ) × (n ≤ length bytes) × Appends old new (take n bytes)

-- what the writer held stays, and something may stand behind it
abbrev pub AppendsOnly : Option (List ℕ) → Option (List ℕ) → Type 0
AppendsOnly old new = (bytes : List ℕ) × Appends old new bytes
