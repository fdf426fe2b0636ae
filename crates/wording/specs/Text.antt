-- The text of a formula: made of the texts of its operands.
use Rattle.std.specs.Prelude.{ℕ, List, [], ◌++◌}
use Rattle.decimals.specs.Decimal.{word, decimal}
use Rattle.value.specs.declared.Bound.{Bound}
use Rattle.value.specs.declared.Bound.TheVariants.{Within, Unbounded}
use Rattle.syntax.specs.declared.Quantifier.{Quantifier}
use Rattle.syntax.specs.declared.Quantifier.TheVariants.{Some, Every}
use Rattle.syntax.specs.declared.Action.{Action}
use Rattle.syntax.specs.declared.Action.TheVariants.{Any, Only}
use Rattle.syntax.specs.Formula.{Formula, true', false', prop, not_prop, and, or, next, until}

-- no bound, no `<=`
abbrev pub bound_text : Bound → List ℕ
bound_text (Within k) = word "<=" ++ decimal k
bound_text Unbounded = []

-- `E` or `A`
abbrev pub quantifier_text : Quantifier → List ℕ
quantifier_text Some = word "E"
quantifier_text Every = word "A"

-- no action, no `#`
abbrev pub action_text : Action → List ℕ
action_text Any = []
action_text (Only k) = word "#" ++ decimal k

-- `true`, `false`, `p0`, `!p0`, `(x & y)`, `(x | y)`, `EX<=3 x`, `AX x`, `EX#7<=3 x`, `AX#0 x`, `E[x U<=2 y]`, `A[x U y]`
unfoldable pub text : Formula → List ℕ
text true' = word "true"
text false' = word "false"
text (prop i) = word "p" ++ decimal i
text (not_prop i) = word "!p" ++ decimal i
text (and φ ψ) = word "(" ++ text φ ++ word " & " ++ text ψ ++ word ")"
text (or φ ψ) = word "(" ++ text φ ++ word " | " ++ text ψ ++ word ")"
text (next q A φ b) = quantifier_text q ++ word "X" ++ action_text A ++ bound_text b ++ word " " ++ text φ
text (until q φ ψ b) = quantifier_text q ++ word "[" ++ text φ ++ word " U" ++ bound_text b ++ word " " ++ text ψ ++ word "]"
