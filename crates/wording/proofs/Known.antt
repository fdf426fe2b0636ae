-- The texts of the paper's examples. Assumes nothing.
use Prim.Native.String.{String}
use mathlib.Core.List.{List, [], ◌∷◌, map}
use mathlib.Core.Path.{◌≡◌, refl}
use Rattle.value.specs.declared.Bound.TheVariants.{Within, Unbounded}
use Rattle.syntax.specs.declared.Quantifier.TheVariants.{Some, Every}
use Rattle.syntax.specs.declared.Action.TheVariants.{Any, Only}
use Rattle.syntax.specs.Formula.{Formula, true', false', prop, not_prop, and, or, next, until}
use Rattle.decimals.specs.Decimal.{word, decimal_in}
use Rattle.wording.specs.Text.{text}

-- a formula, and how it is written
pub record Known : Type 0 where
  pub formula : Formula
  pub written : String

abbrev pub is : Formula → String → Known
is φ w = record { formula = φ; written = w }

abbrev pub known : List Known
known =
    is true' "true"
    ∷ is false' "false"
    ∷ is (prop 0) "p0"
    ∷ is (not_prop 0) "!p0"
    ∷ is (prop 31) "p31"
    ∷ is (and (prop 0) (not_prop 1)) "(p0 & !p1)"
    ∷ is (or (prop 0) (prop 10)) "(p0 | p10)"
    ∷ is (next Some Any (prop 0) (Within 3)) "EX<=3 p0"
    ∷ is (next Every Any true' Unbounded) "AX true"
    ∷ is (next Some (Only 7) (prop 0) (Within 3)) "EX#7<=3 p0"
    ∷ is (next Every (Only 0) (prop 0) Unbounded) "AX#0 p0"
    ∷ is (until Some (prop 0) (prop 1) (Within 2)) "E[p0 U<=2 p1]"
    ∷ is (until Every (prop 0) (prop 1) Unbounded) "A[p0 U p1]"
    ∷ is (until Every (prop 0) (next Some Any false' (Within 4294967294)) (Within 0)) "A[p0 U<=0 EX<=4294967294 false]"
    ∷ is (next Every (Only 255) (next Some Any (prop 1) Unbounded) (Within 4294967294)) "AX#255<=4294967294 EX p1"
    ∷ []

pub known_texts : map (λ (k : Known). text k.formula) known ≡ map (λ (k : Known). word k.written) known
unfolding text decimal_in
known_texts = refl
