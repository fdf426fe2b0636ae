-- Lists of numbers that never fall.
use Rattle.std.specs.Prelude.{ℕ, ◌≤◌, List, [], ◌∷◌}

-- none is below the one before it, and the first is not below k
unfoldable pub RisingFrom : ℕ → List ℕ → Type 0
RisingFrom k [] = Unit
RisingFrom k (a ∷ l) = (k ≤ a) × RisingFrom a l

-- none is below the one before it
abbrev pub Rising : List ℕ → Type 0
Rising l = RisingFrom 0 l
