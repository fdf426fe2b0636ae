-- What makes an until hold: right now, or left now and the until after a step, within what is left. Assumes nothing.
use Prim.Native.Nat.{ℕ, suc, zero, ◌+◌, ◌≤◌, ◌<◌}
use native.Mathlib.Nat.{not-suc-le-zero}
use native.Mathlib.Omega.{arith}
use borrow.Author.Tests.{leb-true, le-leb}
use mathlib.Core.Path.{◌≡◌, refl}
use mathlib.Core.Bool.{true}
use Rattle.value.specs.declared.Bound.{Bound}
use Rattle.value.specs.declared.Bound.TheVariants.{Within}
use Rattle.value.specs.Value.{inside}
use Rattle.value.proofs.Values.{inside_le, inside_zero}
use Rattle.syntax.specs.declared.Quantifier.{Quantifier}
use Rattle.syntax.specs.declared.Quantifier.TheVariants.{Some, Every}
use Rattle.runs.specs.Systems.{System, Leads}
use Rattle.runs.specs.Runs.{Dead, Endless, Ending, Run, endless, ending, total}
use Rattle.runs.specs.Sat.{Witness, Witnessed, Until}

-- a sequence with one more element in front
abbrev push : {A : Type 0} → A → (ℕ → A) → ℕ → A
push a f zero = a
push a f (suc i) = f i

module _ (S : System) where
  -- a step in front of a run
  prepend : {a : S.State} {w : ℕ} {c : S.State} → Leads S a w c → Run S c → Run S a
  prepend {a} {w} {c} t (endless ρ) = endless (record { at = push a ρ.at; weight = push w ρ.weight; starts = refl; steps = steps })
    where
      steps : (i : ℕ) → Leads S (push a ρ.at i) (push w ρ.weight i) (ρ.at i)
      steps zero = rw ρ.starts t
      steps (suc i) = ρ.steps i
  prepend {a} {w} {c} t (ending ρ) =
      ending (record { last = suc ρ.last; at = push a ρ.at; weight = push w ρ.weight; starts = refl; steps = steps; ends = ρ.ends })
    where
      steps : (i : ℕ) → i < suc ρ.last → Leads S (push a ρ.at i) (push w ρ.weight i) (ρ.at i)
      steps zero h = rw ρ.starts t
      steps (suc i) h = ρ.steps i (omega arith)

  -- a run without its first step
  rest : {a : S.State} (ρ : Endless S a) → Endless S (ρ.at 1)
  rest ρ = record { at = λ i. ρ.at (suc i); weight = λ i. ρ.weight (suc i); starts = refl; steps = λ i. ρ.steps (suc i) }

  rest_ending : {a : S.State} (ρ : Ending S a) (k : ℕ) → ρ.last ≡ suc k → Ending S (ρ.at 1)
  rest_ending ρ k e = record {
    last = k;
    at = λ i. ρ.at (suc i);
    weight = λ i. ρ.weight (suc i);
    starts = refl;
    steps = λ i h. ρ.steps (suc i) (omega arith);
    ends = rw e at ρ.ends;
  }

  module _ (L R : S.State → Type 0) where
    -- where right holds there is a witness at once
    pub now : (b : Bound) {at : ℕ → S.State} {weight : ℕ → ℕ} → R (at 0) → Witness L R b at weight
    unfolding total
    now b r = record { position = 0; arrives = r; cost = inside_zero b; before = λ i h. absurd (not-suc-le-zero h) }

    pub run_now : (b : Bound) {a : S.State} (ρ : Run S a) → R a → Witnessed L R b ρ
    unfolding now
    run_now b (endless ρ) r = now b (rw ρ.starts r)
    run_now b (ending ρ) r = (now b (rw ρ.starts r), omega arith)

    -- a witness, seen from one position before
    later : {d e : ℕ} (at : ℕ → S.State) (weight : ℕ → ℕ) → L (at 0) → Witness L R (Within e) (λ i. at (suc i)) (λ i. weight (suc i)) → weight 0 + e ≤ d
        → Witness L R (Within d) at weight
    unfolding total
    later {d} {e} at weight l k fits = record { position = suc k.position; arrives = k.arrives; cost = cost; before = before }
      where
        cost : inside (Within d) (total weight (suc k.position)) ≡ true
        cost = let h = leb-true (total (λ i. weight (suc i)) k.position) e k.cost in le-leb (total weight (suc k.position)) d (omega arith)

        before : (i : ℕ) → i < suc k.position → L (at i)
        before zero h = l
        before (suc i) h = k.before i (omega arith)

    -- left holds, and after some step, or any, the until holds within what is left of d
    pub E-later : {a : S.State} {w : ℕ} {c : S.State} {d e : ℕ} → Leads S a w c → L a → Until S Some L R (Within e) c → w + e ≤ d → Until S Some L R (Within d) a
    unfolding prepend later
    E-later {a} {w} t l (endless ρ, k) fits = (prepend t (endless ρ), later (push a ρ.at) (push w ρ.weight) l k fits)
    E-later {a} {w} t l (ending ρ, (k, h)) fits = (prepend t (ending ρ), (later (push a ρ.at) (push w ρ.weight) l k fits, omega arith))

    pub A-later : {a : S.State} {d : ℕ} → L a → ¬ Dead S a → ((w : ℕ) (c : S.State) → Leads S a w c → (e : ℕ) × Until S Every L R (Within e) c × (w + e ≤ d))
        → Until S Every L R (Within d) a
    unfolding rest rest_ending later
    A-later l live next (endless ρ) =
        let n = next (ρ.weight 0) (ρ.at 1) (rw ρ.starts at (ρ.steps 0)) in
        later ρ.at ρ.weight (rw ρ.starts l) (n.1 (endless (rest ρ))) n.2
    A-later {a} {d} l live next (ending ρ) = go ρ.last refl
      where
        go : (k : ℕ) → ρ.last ≡ k → Witnessed L R (Within d) (ending ρ)
        go zero e = absurd (live (rw ρ.starts at (rw e at ρ.ends)))
        go (suc k) e =
            let n = next (ρ.weight 0) (ρ.at 1) (rw ρ.starts at (ρ.steps 0 (omega arith))) in
            let (w, h) = n.1 (ending (rest_ending ρ k e)) in
            (later ρ.at ρ.weight (rw ρ.starts l) w n.2, omega arith)

    -- within d, and d within b
    cheaper : (b : Bound) {d : ℕ} {at : ℕ → S.State} {weight : ℕ → ℕ} → inside b d ≡ true → Witness L R (Within d) at weight → Witness L R b at weight
    cheaper b {d} {weight = weight} e k =
        record { position = k.position; arrives = k.arrives; cost = inside_le b (leb-true (total weight k.position) d k.cost) e; before = k.before }

    run_cheaper : (b : Bound) (d : ℕ) {a : S.State} (ρ : Run S a) → inside b d ≡ true → Witnessed L R (Within d) ρ → Witnessed L R b ρ
    unfolding cheaper
    run_cheaper b d (endless ρ) e k = cheaper b e k
    run_cheaper b d (ending ρ) e (k, h) = (cheaper b e k, h)

    pub weaken : (q : Quantifier) (b : Bound) (a : S.State) (d : ℕ) → inside b d ≡ true → Until S q L R (Within d) a → Until S q L R b a
    weaken Some b a d e (ρ, k) = (ρ, run_cheaper b d ρ e k)
    weaken Every b a d e u = λ ρ. run_cheaper b d ρ e (u ρ)
