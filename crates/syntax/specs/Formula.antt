-- Formulas of weighted CTL with upper bounds, and the formula that rows make.
use Rattle.std.specs.Prelude.{ℕ, suc, zero, ◌+◌, ◌-◌, List, ◌≡◌, length}
use Rattle.std.proofs.Math.Option.{Option, some, none}
use Rattle.std.proofs.Math.ListN.{get_elem?}
use Rattle.lists.specs.Lists.{◌∈◌}
use Rattle.value.specs.declared.Bound.{Bound}
use Rattle.syntax.specs.declared.Quantifier.{Quantifier}
use Rattle.syntax.specs.declared.Action.{Action}
use Rattle.syntax.specs.declared.Row.{Row}
use Rattle.syntax.specs.Rows.{operands}

-- the operators, with formulas for operands; EX, AX and the untils carry a quantifier and a bound that is a number or none, EX and AX also
-- an action that is given or not
pub data Formula : Type 0 where
  true' false' : Formula
  prop not_prop : ℕ → Formula
  and or : Formula → Formula → Formula
  next : Quantifier → Action → Formula → Bound → Formula
  until : Quantifier → Formula → Formula → Bound → Formula

-- the formula of a row, from the formulas of its operands
abbrev pub grow : Option Row → (ℕ → Formula) → Formula
grow none φ = false'
grow (some Row.True) φ = true'
grow (some Row.False) φ = false'
grow (some (Row.Proposition i)) φ = prop i
grow (some (Row.Negation i)) φ = not_prop i
grow (some (Row.And l r)) φ = and (φ l) (φ r)
grow (some (Row.Or l r)) φ = or (φ l) (φ r)
grow (some (Row.Next q k l b)) φ = next q k (φ l) b
grow (some (Row.Until q l r b)) φ = until q (φ l) (φ r) b

-- the formula of row i, to a depth of n operators; operands are earlier rows, so any n above i gives the whole tree
unfoldable pub tree : ℕ → List Row → ℕ → Formula
tree zero rows i = false'
tree (suc n) rows i = grow (get_elem? rows i) (λ l. tree n rows l)

-- the formula of row i: no tree of these rows is deeper than there are rows
abbrev pub formula_of : List Row → ℕ → Formula
formula_of rows i = tree (length rows) rows i

-- the root is the last row
abbrev pub root_of : List Row → Formula
root_of rows = formula_of rows (length rows - 1)

-- how many operators and propositions a formula has; a negated proposition is one
unfoldable pub size : Formula → ℕ
size true' = 1
size false' = 1
size (prop i) = 1
size (not_prop i) = 1
size (and x y) = 1 + size x + size y
size (or x y) = 1 + size x + size y
size (next q k x b) = 1 + size x
size (until q x y b) = 1 + size x + size y

-- row i reaches a row: it is that row, or it reaches one that has it for an operand
pub data Reaches (rows : List Row) (i : ℕ) : ℕ → Type 0 where
  here : Reaches rows i i
  through : {j l : ℕ} {row : Row} → Reaches rows i j → get_elem? rows j ≡ some row → l ∈ operands row → Reaches rows i l
