-- What an until makes of values that grow along a run by no more than its weights. Assumes nothing.
use Prim.Native.Nat.{ℕ, suc, zero, ◌+◌, ◌≤◌, ◌<◌}
use native.Mathlib.Omega.{arith}
use mathlib.Core.Path.{◌≡◌}
use mathlib.Core.Bool.{true, false}
use Rattle.value.specs.declared.Bound.{Bound}
use Rattle.value.specs.Value.{Value, meets, ◌≼◌}
use Rattle.value.proofs.Values.{inside_meets}
use Rattle.model.specs.Model.{Model}
use Rattle.syntax.specs.declared.Quantifier.{Quantifier}
use Rattle.syntax.specs.declared.Quantifier.TheVariants.{Some, Every}
use Rattle.runs.specs.Systems.{System, Leads, system_of}
use Rattle.runs.specs.Runs.{Endless, Ending, endless, ending, total}
use Rattle.runs.specs.Sat.{Witness, Until}
use Rattle.runs.proofs.Proper.{Proper}
use Rattle.runs.proofs.Untils.{run_now}
use Rattle.runs.proofs.Strategies.{Strategy, price, onward, stops, walk, paid, ended, walked, Kind, goes_on, ends_at, run, first_step, within, kind}

-- the value at the first position is at most the weights before position p, if that at p is 0 and no step adds more than its weight
along : (h : ℕ → Value) (at w : ℕ → ℕ) (p : ℕ) → h (at p) ≼ 0
    → ((i : ℕ) → i < p → (e : ℕ) → h (at (suc i)) ≼ e → h (at i) ≼ (w i + e)) → h (at 0) ≼ total w p
unfolding total
along h at w zero base step = base
along h at w (suc p) base step =
    step 0 (omega arith) (total (λ j. w (suc j)) p) (along h (λ j. at (suc j)) (λ j. w (suc j)) p base (λ i l. step (suc i) (omega arith)))

-- values climb along a step from where L holds by no more than the weight
abbrev pub Climbs : (ℕ → Type 0) → (ℕ → Value) → ℕ → ℕ → ℕ → Type 0
Climbs L h a w c = L a → (e : ℕ) → h c ≼ e → h a ≼ (w + e)

module _ (M : Model) (ok : Proper M) where
  abbrev S : System
  S = system_of M

  -- a step leads to a state, so a run stays among the states
  among : {a : ℕ} (ρ : Endless S a) → a < M.states → (i : ℕ) → ρ.at i < M.states
  among ρ l zero = rw ρ.starts l
  among ρ l (suc i) = ok.target (ρ.steps i)

  among_ending : {a : ℕ} (ρ : Ending S a) → a < M.states → (i : ℕ) → i ≤ ρ.last → ρ.at i < M.states
  among_ending ρ l zero h = rw ρ.starts l
  among_ending ρ l (suc i) h = ok.target (ρ.steps i h)

  module _ (L R : ℕ → Type 0) where
    -- where right holds, an until does
    pub until_now : (q : Quantifier) (b : Bound) (a : ℕ) → a < M.states → R a → Until S q L R b a
    until_now Some b a l r = let ρ = run (first_step M) (kind M ok (first_step M) a l) in (ρ, run_now S L R b ρ r)
    until_now Every b a l r = λ ρ. run_now S L R b ρ r

    -- values that are 0 where R holds are within the bound where there is a witness and they climb along the steps before it
    module _ (h : ℕ → Value) (start : (a : ℕ) → a < M.states → R a → h a ≼ 0) (b : Bound) where
      walk_value : {at weight : ℕ → ℕ} (k : Witness L R b at weight) → at k.position < M.states
          → ((i : ℕ) → i < k.position → Climbs L h (at i) (weight i) (at (suc i))) → meets b (h (at 0)) ≡ true
      walk_value {at} {weight} k l climb =
          inside_meets b k.cost
          (along h at weight k.position (start (at k.position) l k.arrives) (λ i p. climb i p (k.before i p)))

      -- so where an E until holds, if they climb along each step; and where an A until does, if they climb along a strategy's
      pub E-value : ((a w c : ℕ) → a < M.states → Leads S a w c → Climbs L h a w c) → (a : ℕ) → a < M.states → Until S Some L R b a → meets b (h a) ≡ true
      E-value climb a l (endless ρ, k) =
          rw ρ.starts at (walk_value k (among ρ l k.position) (λ i p. climb (ρ.at i) (ρ.weight i) (ρ.at (suc i)) (among ρ l i) (ρ.steps i)))
      E-value climb a l (ending ρ, (k, n)) =
          rw ρ.starts at (walk_value k (among_ending ρ l k.position n)
          (λ i p. climb (ρ.at i) (ρ.weight i) (ρ.at (suc i)) (among_ending ρ l i (omega arith)) (ρ.steps i (omega arith))))

      pub A-value : (f : Strategy S) → ((a : ℕ) → a < M.states → stops (f a) ≡ false → Climbs L h a (price (f a)) (onward (f a)))
          → (a : ℕ) → a < M.states → Until S Every L R b a → meets b (h a) ≡ true
      A-value f climb a l u = by_kind (kind M ok f a l)
        where
          climbs : (i : ℕ) → ended f i a ≡ false → Climbs L h (walk f a i) (paid f a i) (walk f a (suc i))
          climbs i e = walked f (λ a w c. a < M.states → Climbs L h a w c) (λ a e l. climb a l e) a i e (within M ok f a l i)

          by_kind : Kind f a → meets b (h a) ≡ true
          by_kind (goes_on on) = let k = u (run f (goes_on on)) in walk_value k (within M ok f a l k.position) (λ i p. climbs i (on i))
          by_kind (ends_at n e on) =
              let (k, p) = u (run f (ends_at n e on)) in
              walk_value k (within M ok f a l k.position) (λ i q. climbs i (on i (omega arith)))
