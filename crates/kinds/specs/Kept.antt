-- What is kept of a row that was read: its operands, or its first fault.
use Rattle.std.specs.Prelude.{ℕ, List, [], ◌∷◌}
use Rattle.wire.specs.Read.{Read, Ok, ◌>>=◌}
use Rattle.syntax.specs.declared.Row.{Row}
use Rattle.syntax.specs.declared.Row.TheVariants.{True, False, Proposition, Negation, And, Or, Next, Until}
use Rattle.kinds.specs.declared.Operands.{Operands}
use Rattle.kinds.specs.declared.Operands.TheVariants.{None, One, Both}

-- the operands of a row, as the check keeps them
unfoldable pub operands_of : Row → Operands
operands_of True = None
operands_of False = None
operands_of (Proposition i) = None
operands_of (Negation i) = None
operands_of (And l r) = Both l r
operands_of (Or l r) = Both l r
operands_of (Next q k l b) = One l
operands_of (Until q l r b) = Both l r

-- the same as a list
abbrev pub listed : Operands → List ℕ
listed None = []
listed (One l) = l ∷ []
listed (Both l r) = l ∷ r ∷ []

-- the operands of a row without fault, or its first fault
abbrev pub judged : Read Row → Read Operands
judged x = x >>= λ row. Ok (operands_of row)
