-- At a dead state EX is false, AX true, and both untils hold exactly where right holds. Assumes nothing.
use Prim.Native.Nat.{ℕ, suc, zero}
use native.Mathlib.Nat.{not-suc-le-zero}
use native.Mathlib.Omega.{arith}
use mathlib.Core.Path.{◌≡◌, refl}
use mathlib.Core.Logic.{◌↔◌}
use Rattle.value.specs.declared.Bound.{Bound}
use Rattle.syntax.specs.declared.Quantifier.{Quantifier}
use Rattle.syntax.specs.declared.Quantifier.TheVariants.{Some, Every}
use Rattle.syntax.specs.declared.Action.{Action}
use Rattle.syntax.specs.Formula.{Formula, next, until}
use Rattle.runs.specs.Systems.{System}
use Rattle.runs.specs.Runs.{Dead, Run, endless, ending}
use Rattle.runs.specs.Sat.{Witnessed, Until, Sat}
use Rattle.runs.proofs.Untils.{run_now}

module _ (S : System) {a : S.State} (dead : Dead S a) where
  pub no_next : (A : Action) (φ : Formula) (b : Bound) → ¬ Sat S (next Some A φ b) a
  no_next A φ b (w, k, c, m, t, i, h) = dead w c (k, m)

  pub all_next : (A : Action) (φ : Formula) (b : Bound) → Sat S (next Every A φ b) a
  all_next A φ b w k c m = absurd (dead w c (k, m))

  -- the one run from there
  alone : Run S a
  alone = ending (record { last = 0; at = λ i. a; weight = λ i. 0; starts = refl; steps = λ i h. absurd (not-suc-le-zero h); ends = dead })

  module _ (L R : S.State → Type 0) (b : Bound) where
    -- a run from there has its witness at once
    at_once : (ρ : Run S a) → Witnessed L R b ρ → R a
    at_once (endless ρ) k = absurd (dead (ρ.weight 0) (ρ.at 1) (rw ρ.starts at (ρ.steps 0)))
    at_once (ending ρ) (k, h) = go k.position refl
      where
        go : (p : ℕ) → k.position ≡ p → R a
        go zero e = rw ρ.starts at (rw e at k.arrives)
        go (suc p) e = absurd (dead (ρ.weight 0) (ρ.at 1) (rw ρ.starts at (ρ.steps 0 (omega arith))))

    dead_until : (q : Quantifier) → Until S q L R b a ↔ R a
    dead_until Some = (λ (ρ, k). at_once ρ k, λ r. (alone, run_now S L R b alone r))
    dead_until Every = (λ u. at_once alone (u alone), λ r ρ. run_now S L R b ρ r)

  pub until_right : (q : Quantifier) (φ ψ : Formula) (b : Bound) → Sat S (until q φ ψ b) a ↔ Sat S ψ a
  until_right q φ ψ b = dead_until (λ c. Sat S φ c) (λ c. Sat S ψ c) b q
