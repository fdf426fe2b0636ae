-- Where every state has a step, every maximal run is endless: satisfaction is then what it was when endless runs alone were runs.
-- Assumes nothing.
use Prim.Native.Nat.{ℕ, suc, zero, ◌≤◌, ◌<◌}
use native.Mathlib.Nat.{le_refl}
use native.Mathlib.Omega.{arith}
use mathlib.Core.Path.{◌≡◌}
use mathlib.Core.Logic.{◌↔◌, ◌⊎◌, ⊎_map}
use mathlib.Core.Bool.{true, false}
use Rattle.value.specs.declared.Bound.{Bound}
use Rattle.syntax.specs.declared.Quantifier.{Quantifier}
use Rattle.syntax.specs.declared.Quantifier.TheVariants.{Some, Every}
use Rattle.syntax.specs.declared.Action.{Action}
use Rattle.syntax.specs.Formula.{Formula, true', false', prop, not_prop, and, or, next, until}
use Rattle.model.specs.Model.{Model}
use Rattle.runs.specs.Systems.{System, Leads, system_of}
use Rattle.runs.specs.Runs.{Dead, Endless, Ending, endless, ending}
use Rattle.runs.specs.Sat.{Next, Witness, Until, Sat}
use Rattle.runs.proofs.Proper.{Proper}

-- an until by endless runs, and satisfaction by it: `Until` and `Sat` as they were
abbrev pub EndlessUntil : (S : System) → Quantifier → (L R : S.State → Type 0) → Bound → S.State → Type 0
EndlessUntil S Some L R b a = (ρ : Endless S a) × Witness L R b ρ.at ρ.weight
EndlessUntil S Every L R b a = (ρ : Endless S a) → Witness L R b ρ.at ρ.weight

abbrev pub EndlessSat : (S : System) → Formula → S.State → Type 0
EndlessSat S true' a = Unit {0}
EndlessSat S false' a = ⊥
EndlessSat S (prop i) a = S.Holds i a ≡ true
EndlessSat S (not_prop i) a = S.Holds i a ≡ false
EndlessSat S (and φ ψ) a = EndlessSat S φ a × EndlessSat S ψ a
EndlessSat S (or φ ψ) a = EndlessSat S φ a ⊎ EndlessSat S ψ a
EndlessSat S (next q A φ b) a = Next S q A (λ c. EndlessSat S φ c) b a
EndlessSat S (until q φ ψ b) a = EndlessUntil S q (λ c. EndlessSat S φ c) (λ c. EndlessSat S ψ c) b a

-- states among which steps stay, and none of which is dead
pub record Lively (S : System) (In : S.State → Type 0) : Type 0 where
  pub onward : {a : S.State} {w : ℕ} {c : S.State} → In a → Leads S a w c → In c
  pub live : {a : S.State} → In a → ¬ Dead S a

-- the same of them satisfy the one and the other
abbrev pub Same : (S : System) (In P Q : S.State → Type 0) → Type 0
Same S In P Q = (a : S.State) → In a → P a ↔ Q a

module _ (S : System) {In : S.State → Type 0} (on : Lively S In) where
  -- a run stays among them
  among : {a : S.State} (ρ : Endless S a) → In a → (i : ℕ) → In (ρ.at i)
  among ρ l zero = rw ρ.starts l
  among ρ l (suc i) = on.onward (among ρ l i) (ρ.steps i)

  among_ending : {a : S.State} (ρ : Ending S a) → In a → (i : ℕ) → i ≤ ρ.last → In (ρ.at i)
  among_ending ρ l zero h = rw ρ.starts l
  among_ending ρ l (suc i) h = on.onward (among_ending ρ l i (omega arith)) (ρ.steps i h)

  -- so none ends
  pub none_ends : {a : S.State} → In a → ¬ Ending S a
  none_ends l ρ = on.live (among_ending ρ l ρ.last (le_refl ρ.last)) ρ.ends

  module _ {L R L' R' : S.State → Type 0} (left : Same S In L L') (right : Same S In R R') (b : Bound) where
    to_old : {a : S.State} (ρ : Endless S a) → In a → Witness L R b ρ.at ρ.weight → Witness L' R' b ρ.at ρ.weight
    to_old ρ l k = record {
      position = k.position;
      arrives = (right (ρ.at k.position) (among ρ l k.position)).0 k.arrives;
      cost = k.cost;
      before = λ i h. (left (ρ.at i) (among ρ l i)).0 (k.before i h);
    }

    to_new : {a : S.State} (ρ : Endless S a) → In a → Witness L' R' b ρ.at ρ.weight → Witness L R b ρ.at ρ.weight
    to_new ρ l k = record {
      position = k.position;
      arrives = (right (ρ.at k.position) (among ρ l k.position)).1 k.arrives;
      cost = k.cost;
      before = λ i h. (left (ρ.at i) (among ρ l i)).1 (k.before i h);
    }

    some_old : {a : S.State} → In a → Until S Some L R b a → EndlessUntil S Some L' R' b a
    some_old l (endless ρ, k) = (ρ, to_old ρ l k)
    some_old l (ending ρ, k) = absurd (none_ends l ρ)

    every_new : {a : S.State} → In a → EndlessUntil S Every L' R' b a → Until S Every L R b a
    every_new l u (endless ρ) = to_new ρ l (u ρ)
    every_new l u (ending ρ) = absurd (none_ends l ρ)

    same_until : (q : Quantifier) → Same S In (Until S q L R b) (EndlessUntil S q L' R' b)
    same_until Some a l = (some_old l, λ (ρ, k). (endless ρ, to_new ρ l k))
    same_until Every a l = (λ u ρ. to_old ρ l (u (endless ρ)), every_new l)

  same_next : {P Q : S.State → Type 0} → Same S In P Q → (q : Quantifier) (A : Action) (b : Bound) → Same S In (Next S q A P b) (Next S q A Q b)
  same_next p Some A b a l =
      (λ (w, k, c, m, t, i, h). (w, k, c, m, t, i, (p c (on.onward l (k, m))).0 h), λ (w, k, c, m, t, i, h). (w, k, c, m, t, i, (p c (on.onward l (k, m))).1 h))
  same_next p Every A b a l =
      (λ h w k c m t i. (p c (on.onward l (k, m))).0 (h w k c m t i), λ h w k c m t i. (p c (on.onward l (k, m))).1 (h w k c m t i))

  same_or : {A B A' B' : Type 0} → A ↔ A' → B ↔ B' → (A ⊎ B) ↔ (A' ⊎ B')
  same_or p q = (λ t. ⊎_map p.0 q.0 t, λ t. ⊎_map p.1 q.1 t)

  pub same_sat : (φ : Formula) → Same S In (Sat S φ) (EndlessSat S φ)
  same_sat true' a l = (λ t. t, λ t. t)
  same_sat false' a l = (λ t. t, λ t. t)
  same_sat (prop i) a l = (λ t. t, λ t. t)
  same_sat (not_prop i) a l = (λ t. t, λ t. t)
  same_sat (and φ ψ) a l = let p = same_sat φ a l in let q = same_sat ψ a l in (λ t. (p.0 t.0, q.0 t.1), λ t. (p.1 t.0, q.1 t.1))
  same_sat (or φ ψ) a l = same_or (same_sat φ a l) (same_sat ψ a l)
  same_sat (next q A φ b) a l = same_next (same_sat φ) q A b a l
  same_sat (until q φ ψ b) a l = same_until (same_sat φ) (same_sat ψ) b q a l

-- of a model each of whose states has a transition
pub same_model : (M : Model) → Proper M → ((a : ℕ) → a < M.states → (w : ℕ) × (c : ℕ) × Leads (system_of M) a w c)
    → (φ : Formula) (a : ℕ) → a < M.states → Sat (system_of M) φ a ↔ EndlessSat (system_of M) φ a
same_model M ok live =
    same_sat (system_of M) {In = λ a. a < M.states} (record { onward = λ l m. ok.target m; live = λ {a} l dead. let (w, c, m) = live a l in dead w c m })
