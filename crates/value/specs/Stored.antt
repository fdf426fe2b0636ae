-- How a value is stored in 64 bits.
use Rattle.std.specs.Prelude.{ℕ, min, cond, eqb}
use Rattle.value.specs.Value.{Value, fin, inf}

-- infinity is stored as 18,446,744,073,709,551,615
abbrev pub infinite : ℕ
infinite = 18446744073709551615

-- the value that a stored number means
unfoldable pub meaning : ℕ → Value
meaning k = cond (eqb k infinite) inf (fin k)

-- the number that stores a value: itself, or infinity's where it is as large as that (on a graph none is: `rounds-fit`)
unfoldable pub stored : Value → ℕ
stored (fin a) = min a infinite
stored inf = infinite
