-- Rows that are no until, and cases by whether a row is one. Assumes nothing.
use Prim.Native.Nat.{ℕ}
use mathlib.Core.Bool.{false}
use mathlib.Core.Path.{◌≡◌, refl}
use Rattle.lists.proofs.Tests.{clash}
use Rattle.value.specs.declared.Bound.{Bound}
use Rattle.syntax.specs.declared.Quantifier.{Quantifier}
use Rattle.syntax.specs.declared.Row.{Row}
use Rattle.syntax.specs.declared.Row.TheVariants.{True, False, Proposition, Negation, And, Or, Next, Until}
use Rattle.reduction.specs.Built.{if_until, is_until}

pub other_row : {X : Type 0} (row : Row) (f : Quantifier → ℕ → ℕ → Bound → X) (x : X) → is_until row ≡ false → if_until row f x ≡ x
other_row True f x e = refl
other_row False f x e = refl
other_row (Proposition i) f x e = refl
other_row (Negation i) f x e = refl
other_row (And l r) f x e = refl
other_row (Or l r) f x e = refl
other_row (Next q A l b) f x e = refl
other_row (Until q l r b) f x e = clash refl e

-- by whether a row is an until
pub by_row : (C : Row → Type 0) → ((q : Quantifier) (l r : ℕ) (b : Bound) → C (Until q l r b)) → ((row : Row) → is_until row ≡ false → C row) → (row : Row) → C row
by_row C until other True = other True refl
by_row C until other False = other False refl
by_row C until other (Proposition i) = other (Proposition i) refl
by_row C until other (Negation i) = other (Negation i) refl
by_row C until other (And l r) = other (And l r) refl
by_row C until other (Or l r) = other (Or l r) refl
by_row C until other (Next q A l b) = other (Next q A l b) refl
by_row C until other (Until q l r b) = until q l r b

-- what a match knows in the arm of the others
pub not_until : (row : Row) → ((q : Quantifier) (l r : ℕ) (b : Bound) → row ≡ Until q l r b → ⊥) → is_until row ≡ false
not_until = by_row (λ row. ((q : Quantifier) (l r : ℕ) (b : Bound) → row ≡ Until q l r b → ⊥) → is_until row ≡ false) (λ q l r b o. absurd (o q l r b refl)) (λ row e o. e)
