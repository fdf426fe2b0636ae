-- The rows that messages say: within the limit, every name of a proposition or an earlier row, and each row but the last used exactly once.
use Rattle.std.specs.Prelude.{ℕ, suc, ◌≤◌, ◌<◌, List, ◌≡◌, length}
use Rattle.std.proofs.Math.Option.{some}
use Rattle.std.proofs.Math.ListN.{get_elem?}
use Rattle.lists.specs.Lists.{◌∈◌}
use Rattle.value.specs.Coded.{Sayable}
use Rattle.syntax.specs.declared.Row.{Row}
use Rattle.syntax.specs.declared.Row.TheVariants.{True, False, Proposition, Negation, And, Or, Next, Until}
use Rattle.syntax.specs.Rows.{operands, propositions, actions, uses}

-- a row's bound, where it has one, is one that 4 bytes can say
abbrev pub SayableRow : Row → Type 0
SayableRow True = Unit
SayableRow False = Unit
SayableRow (Proposition i) = Unit
SayableRow (Negation i) = Unit
SayableRow (And l r) = Unit
SayableRow (Or l r) = Unit
SayableRow (Next q k l b) = Sayable b
SayableRow (Until q l r b) = Sayable b

-- the row at a place
abbrev pub RowAt : List Row → ℕ → Row → Type 0
RowAt rows i row = get_elem? rows i ≡ some row

pub record WellFormed (p : ℕ) (rows : List Row) : Type 0 where
  pub propositions_fit : p ≤ 32
  pub some_row : 1 ≤ length rows
  pub rows_fit : length rows ≤ 64
  -- a proposition exists below p, and an operand is an earlier row
  pub propositions_named : (i : ℕ) {row : Row} → RowAt rows i row → {q : ℕ} → q ∈ propositions row → q < p
  pub earlier : (i : ℕ) {row : Row} → RowAt rows i row → {l : ℕ} → l ∈ operands row → l < i
  pub sayable : {row : Row} → row ∈ rows → SayableRow row
  -- an action is a number of a byte
  pub actions_fit : {row : Row} → row ∈ rows → {k : ℕ} → k ∈ actions row → k < 256
  -- every row but the last is an operand exactly once
  pub used_once : (i : ℕ) → suc i < length rows → uses i rows ≡ 1
