-- Model M of the paper, and the questions T13 to T15.
use Rattle.std.specs.Prelude.{ℕ, List, [], ◌∷◌}
use Rattle.value.specs.declared.Bound.{Bound}
use Rattle.value.specs.declared.Bound.TheVariants.{Within, Unbounded}
use Rattle.model.specs.Model.{Model, Transition}
use Rattle.syntax.specs.declared.Quantifier.{Quantifier}
use Rattle.syntax.specs.declared.Quantifier.TheVariants.{Some, Every}
use Rattle.syntax.specs.declared.Row.{Row}
use Rattle.syntax.specs.declared.Row.TheVariants.{Proposition, Until}
use Rattle.questions.specs.Question.{Question}

-- a transition by its parts, with action 0
abbrev transition : (from weight to : ℕ) → Transition
transition a w c = record { from = a; weight = w; action = 0; to = c }

-- state 0 has p0, state 1 has p1; transitions 0 to 0 weight 3, 0 to 1 weight 2, 1 to 1 weight 0
abbrev pub M : Model
M = record { states = 2; propositions = 2; labels = 1 ∷ 2 ∷ []; transitions = transition 0 3 0 ∷ transition 0 2 1 ∷ transition 1 0 1 ∷ [] }

-- p0, p1 and an until of the two
abbrev pub p0_until_p1 : Quantifier → Bound → List Row
p0_until_p1 q b = Proposition 0 ∷ Proposition 1 ∷ Until q 0 1 b ∷ []

-- a question about M
abbrev pub on-M : List Row → Question
on-M rows = record { model = M; rows = rows }

-- E[p0 U<=2 p1], the same with bound 1, and A[p0 U p1]
abbrev pub T13 : Question
T13 = on-M (p0_until_p1 Some (Within 2))

abbrev pub T14 : Question
T14 = on-M (p0_until_p1 Some (Within 1))

abbrev pub T15 : Question
T15 = on-M (p0_until_p1 Every Unbounded)
