-- How long a text is: at most 19 bytes for each operator and proposition, so 1,216 for 64 rows. Assumes nothing.
use Prim.Native.Nat.{ℕ, ◌*◌, ◌≤◌}
use mathlib.Core.List.{List}
use native.Mathlib.Omega.{arith}
use lib.ListN.{length, length-append}
use Rattle.value.specs.declared.Bound.{Bound}
use Rattle.value.specs.declared.Bound.TheVariants.{Within, Unbounded}
use Rattle.syntax.specs.declared.Quantifier.{Quantifier}
use Rattle.syntax.specs.declared.Quantifier.TheVariants.{Some, Every}
use Rattle.syntax.specs.declared.Action.{Action}
use Rattle.syntax.specs.declared.Action.TheVariants.{Any, Only}
use Rattle.syntax.specs.declared.Row.{Row}
use Rattle.syntax.specs.Formula.{Formula, true', false', prop, not_prop, and, or, next, until, size, root_of}
use Rattle.syntax.specs.WellFormed.{WellFormed}
use Rattle.formula.proofs.Trees.{tree_size}
use Rattle.wording.specs.Text.{bound_text, quantifier_text, action_text, text}
use Rattle.decimals.proofs.Decimal.{decimal_length, decimal_short}
use Rattle.wording.proofs.Small.{SmallAction, Small, accepted_small}

-- `<=` and at most ten digits
bound_length : (b : Bound) → length (bound_text b) ≤ 12
bound_length (Within k) = omega (arith, decimal_length 10 k)
bound_length Unbounded = omega arith

-- `#` and at most three digits
action_length : (A : Action) → SmallAction A → length (action_text A) ≤ 4
action_length Any h = omega arith
action_length (Only k) h = omega (arith, decimal_short 2 k h (omega arith))

quantifier_length : (q : Quantifier) → length (quantifier_text q) ≤ 1
quantifier_length Some = omega arith
quantifier_length Every = omega arith

-- the longest begins `EX#255<=4294967294 `
pub text_length : (φ : Formula) → Small φ → length (text φ) ≤ 19 * size φ
unfolding text size
text_length true' s = omega arith
text_length false' s = omega arith
text_length (prop i) s = omega (arith, decimal_length 10 i)
text_length (not_prop i) s = omega (arith, decimal_length 10 i)
text_length (and φ ψ) s = simp length-append (omega (arith, text_length φ s.0, text_length ψ s.1))
text_length (or φ ψ) s = simp length-append (omega (arith, text_length φ s.0, text_length ψ s.1))
text_length (next q A φ b) s =
    simp length-append (omega (arith, text_length φ s.1, action_length A s.0, bound_length b, quantifier_length q))
text_length (until q φ ψ b) s =
    simp length-append (omega (arith, text_length φ s.0, text_length ψ s.1, bound_length b, quantifier_length q))

-- an accepted formula has as many of them as it has rows, so 1,216 bytes suffice
pub accepted_text_length : {p : ℕ} {rows : List Row} → WellFormed p rows → length (text (root_of rows)) ≤ 1216
accepted_text_length {rows = rows} w = omega (arith, text_length (root_of rows) (accepted_small w), tree_size w, w.rows_fit)

pub accepted_text_short : {p : ℕ} {rows : List Row} → WellFormed p rows → length (text (root_of rows)) ≤ 2048
accepted_text_short w = let h = accepted_text_length w in omega arith
