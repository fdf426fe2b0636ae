-- A value is a whole number or infinity.
use Rattle.std.specs.Prelude.{◌≡◌, Bool, true, false, ℕ, ◌+◌, min, max, eqb, leb}
use Rattle.value.specs.declared.Bound.{Bound}
use Rattle.value.specs.declared.Bound.TheVariants.{Within, Unbounded}

infix 40 ◌≼◌
infix 40 ◌⊑◌
pub data Value : Type 0 where
  fin : ℕ → Value
  inf : Value

-- infinity plus any weight is infinity
abbrev pub plus : ℕ → Value → Value
plus w (fin a) = fin (w + a)
plus w inf = inf

-- the greater of two values; infinity is the greatest
abbrev pub greatest : Value → Value → Value
greatest (fin a) (fin b) = fin (max a b)
greatest (fin a) inf = inf
greatest inf b = inf

-- the lesser of two values
abbrev pub least : Value → Value → Value
least (fin a) (fin b) = fin (min a b)
least (fin a) inf = fin a
least inf b = b

-- the test whether the value is at most the number
abbrev pub at_most : Value → ℕ → Bool
at_most (fin a) k = leb a k
at_most inf k = false

-- the value is a whole number
abbrev pub finite : Value → Bool
finite (fin a) = true
finite inf = false

-- the test whether two values are equal
abbrev pub same : Value → Value → Bool
same (fin a) (fin b) = eqb a b
same (fin a) inf = false
same inf (fin b) = false
same inf inf = true

-- the number is within the bound
abbrev pub inside : Bound → ℕ → Bool
inside (Within k) a = leb a k
inside Unbounded a = true

-- the value is within the bound: at most its number; with no bound, finite
abbrev pub meets : Bound → Value → Bool
meets (Within k) a = at_most a k
meets Unbounded a = finite a

-- the value is at most the number
pub record ◌≼◌ (a : Value) (k : ℕ) : Type 0 where
  pub test : at_most a k ≡ true

-- the order of values, infinity the largest: a is at most every number that b is at most
pub record ◌⊑◌ (a b : Value) : Type 0 where
  pub carries : {k : ℕ} → b ≼ k → a ≼ k
