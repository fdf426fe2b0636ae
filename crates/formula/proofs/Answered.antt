-- The reading from the answer. Assumes nothing.
use Prim.Native.Nat.{ℕ}
use mathlib.Core.List.{List}
use mathlib.Core.Path.{◌≡◌, refl, sym, ap}
use lib.ListN.{length}
use Rattle.refusal.specs.declared.Fault.{Fault}
use Rattle.wire.specs.Read.{Read, Ok, Err, ◌>>=◌}
use Rattle.kinds.specs.Kept.{operands_of, listed, judged}
use Rattle.formula.specs.Answers.{checked}
use Rattle.syntax.specs.declared.Row.{Row}
use Rattle.syntax.specs.declared.Row.TheVariants.{True, False, Proposition, Negation, And, Or, Next, Until}
use Rattle.syntax.specs.Rows.{operands}
use Rattle.kinds.specs.declared.Operands.{Operands}
use Rattle.wire.proofs.Reading.{never, good_same, bad_same}

-- operands that were kept are those of the row that was read
pub record Kept (x : Read Row) (k : Operands) : Type 0 where
  pub row : Row
  pub read : x ≡ Ok row
  pub are : operands_of row ≡ k

pub listed_are : (row : Row) → listed (operands_of row) ≡ operands row
unfolding operands_of
listed_are True = refl
listed_are False = refl
listed_are (Proposition i) = refl
listed_are (Negation i) = refl
listed_are (And l r) = refl
listed_are (Or l r) = refl
listed_are (Next q k l b) = refl
listed_are (Until q l r b) = refl

pub judged_fine : (x : Read Row) {k : Operands} → judged x ≡ Ok k → Kept x k
unfolding ◌>>=◌
judged_fine (Ok a) {k} e = record { row = a; read = refl; are = good_same e }
judged_fine (Err a) e = absurd (never e)

pub judged_refused : (x : Read Row) {f : Fault} → judged x ≡ Err f → x ≡ Err f
unfolding ◌>>=◌
judged_refused (Ok a) e = absurd (never (sym e))
judged_refused (Err a) e = ap Err (bad_same e)

-- an accepted message has rows, as many as the answer says
pub record Rows (x : Read (List Row)) (f : ℕ) : Type 0 where
  pub rows : List Row
  pub read : x ≡ Ok rows
  pub long : length rows ≡ f

pub checked_formula : (x : Read (List Row)) {f : ℕ} → checked x ≡ Ok f → Rows x f
unfolding checked ◌>>=◌
checked_formula (Ok rs) {f} e = record { rows = rs; read = refl; long = good_same e }
checked_formula (Err a) e = absurd (never e)

pub checked_refused : (x : Read (List Row)) {f : Fault} → checked x ≡ Err f → x ≡ Err f
unfolding checked ◌>>=◌
checked_refused (Ok a) e = absurd (never (sym e))
checked_refused (Err a) e = ap Err (bad_same e)
