-- What it is for a state to satisfy a formula, by its maximal runs.
use Rattle.std.specs.Prelude.{ℕ, ◌≤◌, ◌<◌, ◌≡◌, ◌⊎◌, true, false}
use Rattle.value.specs.declared.Bound.{Bound}
use Rattle.value.specs.Value.{inside}
use Rattle.syntax.specs.declared.Quantifier.{Quantifier}
use Rattle.syntax.specs.declared.Quantifier.TheVariants.{Some, Every}
use Rattle.syntax.specs.declared.Action.{Action}
use Rattle.syntax.specs.Rows.{allows}
use Rattle.syntax.specs.Formula.{Formula, true', false', prop, not_prop, and, or, next, until}
use Rattle.runs.specs.Systems.{System}
use Rattle.runs.specs.Runs.{Run, endless, ending, total}

-- EX: some step of an action that is looked at and of weight within the bound leads to a state with P. AX: all such steps do
abbrev pub Next : (S : System) → Quantifier → Action → (S.State → Type 0) → Bound → S.State → Type 0
Next S Some A P b a = (w k : ℕ) × (c : S.State) × S.Step a w k c × (allows A k ≡ true) × (inside b w ≡ true) × P c
Next S Every A P b a = (w k : ℕ) (c : S.State) → S.Step a w k c → allows A k ≡ true → inside b w ≡ true → P c

-- a position of a run that satisfies R, with the weights before it summing to within the bound and L holding at each earlier position
pub record Witness {A : Type 0} (L R : A → Type 0) (b : Bound) (at : ℕ → A) (weight : ℕ → ℕ) : Type 0 where
  pub position : ℕ
  pub arrives : R (at position)
  pub cost : inside b (total weight position) ≡ true
  pub before : (i : ℕ) → i < position → L (at i)

-- a run has such a position: on an ending run, one up to the last
abbrev pub Witnessed : {S : System} {a : S.State} → (L R : S.State → Type 0) → Bound → Run S a → Type 0
Witnessed L R b (endless ρ) = Witness L R b ρ.at ρ.weight
Witnessed L R b (ending ρ) = (k : Witness L R b ρ.at ρ.weight) × (k.position ≤ ρ.last)

-- E until: some maximal run from the state has such a position. A until: every one has
abbrev pub Until : (S : System) → Quantifier → (L R : S.State → Type 0) → Bound → S.State → Type 0
Until S Some L R b a = (ρ : Run S a) × Witnessed L R b ρ
Until S Every L R b a = (ρ : Run S a) → Witnessed L R b ρ

-- the state a satisfies the formula
abbrev pub Sat : (S : System) → Formula → S.State → Type 0
Sat S true' a = Unit {0}
Sat S false' a = ⊥
Sat S (prop i) a = S.Holds i a ≡ true
Sat S (not_prop i) a = S.Holds i a ≡ false
Sat S (and φ ψ) a = Sat S φ a × Sat S ψ a
Sat S (or φ ψ) a = Sat S φ a ⊎ Sat S ψ a
Sat S (next q A φ b) a = Next S q A (λ c. Sat S φ c) b a
Sat S (until q φ ψ b) a = Until S q (λ c. Sat S φ c) (λ c. Sat S ψ c) b a
