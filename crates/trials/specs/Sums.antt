-- Adler-32 sums: two halves below 65,521, the lower one starting from 1.
use Rattle.std.specs.Prelude.{ℕ, suc, ◌+◌, ◌*◌, ◌/◌, ◌%◌, cond, List, [], ◌∷◌, ◌++◌, nat_lt}
use Rattle.wire.specs.Bytes.{bytes}

-- the sum of these halves
abbrev pub joined : ℕ → ℕ → ℕ
joined b a = (b + a) % 65521 * 65536 + a

-- a sum with one byte more
abbrev pub after : ℕ → ℕ → ℕ
after sum x = joined (sum / 65536) ((sum % 65536 + x) % 65521)

-- a sum with these bytes more
unfoldable pub after_all : ℕ → List ℕ → ℕ
after_all sum [] = sum
after_all sum (x ∷ xs) = after_all (after sum x) xs

-- the sum of these bytes
abbrev pub adler : List ℕ → ℕ
adler s = after_all 1 s

-- the bytes of items one after another: a byte is its own, a number has 8, a word 4, big-endian
unfoldable pub spread : {A : Type 0} → (A → List ℕ) → List A → List ℕ
spread f [] = []
spread f (x ∷ xs) = f x ++ spread f xs

abbrev pub one_byte : ℕ → List ℕ
one_byte x = x ∷ []

abbrev pub eight_bytes : ℕ → List ℕ
eight_bytes = bytes 8

abbrev pub four_bytes : ℕ → List ℕ
four_bytes = bytes 4

-- of claims from byte i on, those bytes that are the first 8 of their 16
unfoldable pub claimed_values : ℕ → List ℕ → List ℕ
claimed_values i [] = []
claimed_values i (x ∷ xs) = cond (nat_lt (i % 16) 8) (x ∷ claimed_values (suc i) xs) (claimed_values (suc i) xs)
