-- The rows of a formula message.
use Rattle.std.specs.Prelude.{ℕ, ◌+◌, ◌-◌, List, [], ◌∷◌, Bool, true, cond, length, eqb, ltb, leb}
use Rattle.lists.specs.Lists.{all, up_to}
use Rattle.value.specs.Coded.{bound_of}
use Rattle.syntax.specs.declared.Quantifier.TheVariants.{Some, Every}
use Rattle.syntax.specs.declared.Action.{Action}
use Rattle.syntax.specs.declared.Action.TheVariants.{Any, Only}
use Rattle.syntax.specs.declared.Row.{Row}
use Rattle.syntax.specs.declared.Row.TheVariants.{True, False, Proposition, Negation, And, Or, Next, Until}

-- EX and AX look at transitions of any action, or only at those of the action given
abbrev pub allows : Action → ℕ → Bool
allows Any action = true
allows (Only k) action = eqb action k

-- operators: 0 true, 1 false, 2 proposition, 3 not that proposition, 4 and, 5 or, 6 EX, 7 AX, 8 E until, 9 A until, 10 EX and 11 AX of the
-- action in right
unfoldable pub row_of : (operator left right bound : ℕ) → Row
row_of o l r b =
    cond (eqb o 0) True
    (cond (eqb o 1) False
    (cond (eqb o 2) (Proposition l)
    (cond (eqb o 3) (Negation l)
    (cond (eqb o 4) (And l r)
    (cond (eqb o 5) (Or l r)
    (cond (eqb o 6) (Next Some Any l (bound_of b))
    (cond (eqb o 7) (Next Every Any l (bound_of b))
    (cond (eqb o 8) (Until Some l r (bound_of b))
    (cond (eqb o 9) (Until Every l r (bound_of b))
    (cond (eqb o 10) (Next Some (Only r) l (bound_of b))
    (Next Every (Only r) l (bound_of b))))))))))))

-- of the fields of a row: left is used by all operators but true and false
abbrev pub uses_left : (operator : ℕ) → Bool
uses_left o = leb 2 o

-- right by and, or, the untils, and EX and AX of an action
abbrev pub uses_right : (operator : ℕ) → Bool
uses_right o = cond (ltb o 6) (leb 4 o) (leb 8 o)

-- the bound by EX, AX and the untils
abbrev pub uses_bound : (operator : ℕ) → Bool
uses_bound o = leb 6 o

-- left names a proposition below p, or an operand, which must be an earlier row
abbrev pub left_limit : (p place operator : ℕ) → ℕ
left_limit p place o = cond (ltb o 4) p place

-- right names an operand too, or an action, which is any number of a byte
abbrev pub right_limit : (place operator : ℕ) → ℕ
right_limit place o = cond (ltb o 10) place 256

-- the rows that a row has for operands
abbrev pub operands : Row → List ℕ
operands True = []
operands False = []
operands (Proposition i) = []
operands (Negation i) = []
operands (And l r) = l ∷ r ∷ []
operands (Or l r) = l ∷ r ∷ []
operands (Next q k l b) = l ∷ []
operands (Until q l r b) = l ∷ r ∷ []

-- the propositions that a row names
abbrev pub propositions : Row → List ℕ
propositions True = []
propositions False = []
propositions (Proposition i) = i ∷ []
propositions (Negation i) = i ∷ []
propositions (And l r) = []
propositions (Or l r) = []
propositions (Next q k l b) = []
propositions (Until q l r b) = []

-- the actions that a row names
abbrev pub actions : Row → List ℕ
actions True = []
actions False = []
actions (Proposition i) = []
actions (Negation i) = []
actions (And l r) = []
actions (Or l r) = []
actions (Next q Any l b) = []
actions (Next q (Only k) l b) = k ∷ []
actions (Until q l r b) = []

-- how often a number stands in a list
unfoldable pub times : ℕ → List ℕ → ℕ
times i [] = 0
times i (l ∷ ls) = cond (eqb l i) 1 0 + times i ls

-- how often a row is an operand
unfoldable pub uses : ℕ → List Row → ℕ
uses i [] = 0
uses i (row ∷ rows) = times i (operands row) + uses i rows

-- every row but the last is an operand exactly once
unfoldable pub used_once : List Row → Bool
used_once rows = all (λ i. eqb (uses i rows) 1) (up_to (length rows - 1))
