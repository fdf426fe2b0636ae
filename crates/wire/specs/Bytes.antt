-- Unsigned big-endian numbers, over the width k in bytes.
use Rattle.std.specs.Prelude.{ℕ, zero, suc, ◌+◌, ◌*◌, ◌/◌, ◌%◌, ◌<◌, List, [], ◌∷◌, ◌++◌, take, drop, slice_index}

-- the number that the k bytes at a position make
unfoldable pub number : ℕ → List ℕ → ℕ → ℕ
number zero s at = 0
number (suc k) s at = number k s at * 256 + slice_index s (at + k)

-- the k bytes of a number
unfoldable pub bytes : ℕ → ℕ → List ℕ
bytes zero n = []
bytes (suc k) n = bytes k (n / 256) ++ (n % 256 ∷ [])

-- b with the k bytes of n at a position
unfoldable pub put : List ℕ → ℕ → ℕ → ℕ → List ℕ
put b at k n = take at b ++ bytes k n ++ drop (at + k) b

-- every element is a byte
abbrev pub Bytes : List ℕ → Type 0
Bytes s = (i : ℕ) → slice_index s i < 256
