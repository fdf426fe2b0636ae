-- Words and decimal numbers as bytes.
use Rattle.std.specs.Prelude.{ℕ, zero, suc, ◌+◌, ◌/◌, ◌%◌, List, [], ◌∷◌, ◌++◌, cond, ltb}
use Prim.Native.Char.{code}
use Prim.Native.String.{String, [] as end, ◌∷◌ as ◌then◌}

-- the bytes of a word
abbrev pub word : String → List ℕ
word end = []
word (c then w) = code c ∷ word w

-- the byte of a decimal digit
abbrev pub digit : ℕ → ℕ
digit n = 48 + n

-- a number with at most so many digits, in decimal without leading zeros
unfoldable pub decimal_in : ℕ → ℕ → List ℕ
decimal_in zero n = []
decimal_in (suc k) n = cond (ltb n 10) (digit n ∷ []) (decimal_in k (n / 10) ++ (digit (n % 10) ∷ []))

-- a 4-byte number has at most ten digits
abbrev pub decimal : ℕ → List ℕ
decimal n = decimal_in 10 n

-- an 8-byte number has at most twenty
abbrev pub long_decimal : ℕ → List ℕ
long_decimal n = decimal_in 20 n
