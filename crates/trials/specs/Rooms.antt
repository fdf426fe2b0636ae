-- What lent rooms hold before a call.
use Rattle.std.specs.Prelude.{◌≡◌, ℕ, ◌+◌, ◌%◌, ◌<◌, List, length, get_or}

-- each place holds what a function gives for it
abbrev pub Each : {A : Type 0} → (ℕ → A) → List A → Type 0
Each f xs = (i : ℕ) → i < length xs → (none : _) → get_or xs i none ≡ f i

-- byte i is i mod 251, number i is i + 1, and word i is i + 1, which fits in each room of the program
abbrev pub byte_at : ℕ → ℕ
byte_at i = i % 251

abbrev pub value_at : ℕ → ℕ
value_at i = i + 1

abbrev pub word_at : ℕ → ℕ
word_at i = (i + 1) % 4294967296
