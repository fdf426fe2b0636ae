-- What the fields of a line add to its text.
use Rattle.std.specs.Prelude.{◌≡◌, ℕ, List, ◌∷◌, ◌++◌, take}
use Rattle.io.specs.Digits.{last_digits, IsDigitCount}

-- a text with more behind it; what would run past 256 bytes is dropped
unfoldable pub more : List ℕ → List ℕ → List ℕ
more t s = take 256 (t ++ s)

-- a text is another with a space and a number's fewest digits behind it
pub record WithNumber (l : List ℕ) (n : ℕ) (r : List ℕ) : Type 0 where
  pub places : ℕ
  pub fewest : IsDigitCount 10 1 n places
  pub text : r ≡ more l (32 ∷ last_digits 10 places n)
