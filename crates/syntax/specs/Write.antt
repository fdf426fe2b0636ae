-- The bytes of a formula message.
use Rattle.std.specs.Prelude.{ℕ, List, ◌++◌, length}
use Rattle.value.specs.Coded.{code_of}
use Rattle.wire.specs.Bytes.{bytes}
use Rattle.wire.specs.Write.{write_all, message}
use Rattle.syntax.specs.Format.{formula_head}
use Rattle.syntax.specs.declared.Quantifier.TheVariants.{Some, Every}
use Rattle.syntax.specs.declared.Action.TheVariants.{Any, Only}
use Rattle.syntax.specs.declared.Row.{Row}
use Rattle.syntax.specs.declared.Row.TheVariants.{True, False, Proposition, Negation, And, Or, Next, Until}

-- operator, left, right, zero (1 each), bound (4)
abbrev pub fields : (operator left right zero bound : ℕ) → List ℕ
fields o l r z b = bytes 1 o ++ bytes 1 l ++ bytes 1 r ++ bytes 1 z ++ bytes 4 b

-- a row's fields; those that it doesn't use are zero
unfoldable pub write_row : Row → List ℕ
write_row True = fields 0 0 0 0 0
write_row False = fields 1 0 0 0 0
write_row (Proposition i) = fields 2 i 0 0 0
write_row (Negation i) = fields 3 i 0 0 0
write_row (And l r) = fields 4 l r 0 0
write_row (Or l r) = fields 5 l r 0 0
write_row (Next Some Any l b) = fields 6 l 0 0 (code_of b)
write_row (Next Every Any l b) = fields 7 l 0 0 (code_of b)
write_row (Until Some l r b) = fields 8 l r 0 (code_of b)
write_row (Until Every l r b) = fields 9 l r 0 (code_of b)
write_row (Next Some (Only k) l b) = fields 10 l k 0 (code_of b)
write_row (Next Every (Only k) l b) = fields 11 l k 0 (code_of b)

-- the row count (1), and the rows
unfoldable pub write_formula : List Row → List ℕ
write_formula rows = message formula_head (bytes 1 (length rows) ++ write_all write_row rows)
