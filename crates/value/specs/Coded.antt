-- A bound in 4 bytes: 4,294,967,295 means no bound.
use Rattle.std.specs.Prelude.{ℕ, ◌<◌, cond, eqb}
use Rattle.value.specs.declared.Bound.{Bound}
use Rattle.value.specs.declared.Bound.TheVariants.{Within, Unbounded}

-- the number that means no bound
abbrev pub no_bound : ℕ
no_bound = 4294967295

-- the bound that a number stands for
unfoldable pub bound_of : ℕ → Bound
bound_of k = cond (eqb k no_bound) Unbounded (Within k)

-- the number that stands for a bound
abbrev pub code_of : Bound → ℕ
code_of (Within k) = k
code_of Unbounded = no_bound

-- the bounds that 4 bytes can say
abbrev pub Sayable : Bound → Type 0
Sayable (Within k) = k < no_bound
Sayable Unbounded = Unit
