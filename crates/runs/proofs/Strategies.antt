-- The maximal run that a strategy leads along. In a model it is known whether it ends: a walk by a strategy that ends at all has left
-- each state behind it for good, so it ends within as many steps as there are states. Assumes nothing.
use Prim.Native.Nat.{ℕ, suc, zero, ◌+◌, ◌≤◌, ◌<◌}
use native.Mathlib.Omega.{arith}
use borrow.Author.Tests.{eq-eqb, eqb-true}
use lib.Dec.{eqb}
use mathlib.Core.Path.{◌≡◌, refl, sym}
use mathlib.Core.Bool.{Bool, true, false}
use mathlib.Core.List.Memᴰ
use mathlib.Core.List.{List}
use Rattle.lists.specs.Lists.{any, up_to, first_from}
use Rattle.lists.proofs.Tests.{by_test, clash}
use Rattle.lists.proofs.Lists.{any_true, true_any, how_many, how_many_le, how_many_more, how_many_some, up_to_length, up_to-∈, first_from_before, first_from_passes}
use Rattle.model.specs.Model.{Model, Transition}
use Rattle.runs.specs.Systems.{System, Leads, system_of}
use Rattle.runs.specs.Runs.{Dead, Run, endless, ending}
use Rattle.runs.proofs.Proper.{Proper}

-- what a walk does at a state: it goes on along a step, or stops, as it may only where no step leads on
pub data Choice (S : System) (a : S.State) : Type 0 where
  go : (w : ℕ) (c : S.State) → Leads S a w c → Choice S a
  stop : Dead S a → Choice S a

module _ {S : System} {a : S.State} where
  abbrev pub price : Choice S a → ℕ
  price (go w c m) = w
  price (stop d) = 0

  abbrev pub onward : Choice S a → S.State
  onward (go w c m) = c
  onward (stop d) = a

  abbrev pub stops : Choice S a → Bool
  stops (go w c m) = false
  stops (stop d) = true

  -- the step that it goes, the end that it comes to
  pub gone : (x : Choice S a) → stops x ≡ false → Leads S a (price x) (onward x)
  gone (go w c m) e = m
  gone (stop d) e = clash refl e

  pub done : (x : Choice S a) → stops x ≡ true → Dead S a
  done (go w c m) e = clash e refl
  done (stop d) e = d

  still : (x : Choice S a) → stops x ≡ true → onward x ≡ a
  still (go w c m) e = clash e refl
  still (stop d) e = refl

-- a choice that depends on the state alone
abbrev pub Strategy : System → Type 0
Strategy S = (a : S.State) → Choice S a

module _ {S : System} (f : Strategy S) where
  -- the states that a strategy leads through, the weights, and whether it has come to the end
  abbrev pub walk : S.State → ℕ → S.State
  walk a zero = a
  walk a (suc i) = walk (onward (f a)) i

  abbrev pub paid : S.State → ℕ → ℕ
  paid a i = price (f (walk a i))

  abbrev pub ended : ℕ → S.State → Bool
  ended i a = stops (f (walk a i))

  -- what holds of each choice to go on holds at each position where the walk goes on
  pub walked : (P : S.State → ℕ → S.State → Type 0) → ((a : S.State) → stops (f a) ≡ false → P a (price (f a)) (onward (f a)))
      → (a : S.State) (i : ℕ) → ended i a ≡ false → P (walk a i) (paid a i) (walk a (suc i))
  walked P law a zero e = law a e
  walked P law a (suc i) e = walked P law (onward (f a)) i e

  -- an end is for good
  stays : (k n : ℕ) (a : S.State) → k ≤ n → ended k a ≡ true → ended n a ≡ true
  stays zero zero a h e = e
  stays zero (suc n) a h e = stays zero n (onward (f a)) (omega arith) (rw (still (f a) e) e)
  stays (suc k) zero a h e = absurd (omega arith)
  stays (suc k) (suc n) a h e = stays k n (onward (f a)) (omega arith) e

  -- the walk goes on for ever, or ends at a position and not before
  pub data Kind (a : S.State) : Type 0 where
    goes_on : ((i : ℕ) → ended i a ≡ false) → Kind a
    ends_at : (k : ℕ) → ended k a ≡ true → ((i : ℕ) → i < k → ended i a ≡ false) → Kind a

  -- the run that it is
  abbrev pub run : {a : S.State} → Kind a → Run S a
  run {a} (goes_on on) =
      endless (record { at = walk a; weight = paid a; starts = refl; steps = λ i. walked (Leads S) (λ a. gone (f a)) a i (on i) })
  run {a} (ends_at k e on) =
      ending (record {
        last = k;
        at = walk a;
        weight = paid a;
        starts = refl;
        steps = λ i h. walked (Leads S) (λ a. gone (f a)) a i (on i h);
        ends = done (f (walk a k)) e;
      })

module _ (M : Model) where
  abbrev S : System
  S = system_of M

  -- the first transition of each state
  pub first_step : Strategy S
  first_step a =
      let from_here : Transition → Bool = λ t. eqb t.from a in
      by_test (any from_here M.transitions) (λ e.
      let (t, m, q) = any_true from_here M.transitions e in
      go t.weight t.to (t.action, Memᴰ.cast (λ i. record { from = sym (eqb-true t.from a q) i; weight = t.weight; action = t.action; to = t.to }) m))
      (λ e. stop (λ w c (k, m). clash (true_any from_here M.transitions _ m (eq-eqb a a refl)) e))

  module _ (ok : Proper M) (f : Strategy S) where
    abbrev all_states : List ℕ
    all_states = up_to M.states

    -- a choice leads to a state
    ranged : {a : ℕ} (x : Choice S a) → a < M.states → onward x < M.states
    ranged (go w c m) l = ok.target m
    ranged (stop d) l = l

    -- so a walk stays among the states
    pub within : (a : ℕ) → a < M.states → (i : ℕ) → walk f a i < M.states
    within a l zero = l
    within a l (suc i) = within (onward (f a)) (ranged (f a) l) i

    -- where a walk ends after just k + 1 steps, there are k + 2 states from which one ends by then: one for each number of steps
    many : (k : ℕ) (a : ℕ) → a < M.states → ended f k a ≡ false → ended f (suc k) a ≡ true → suc k < how_many (ended f (suc k)) all_states
    many zero a l before after =
        let h = how_many_some (ended f 0) all_states (onward (f a)) (up_to-∈ M.states (ranged (f a) l)) after in
        let m = how_many_more (ended f 0) (ended f 1) all_states (λ b n. stays f 0 1 b (omega arith)) a (up_to-∈ M.states l) before after in
        omega arith
    many (suc k) a l before after =
        let h = many k (onward (f a)) (ranged (f a) l) before after in
        let m = how_many_more (ended f (suc k)) (ended f (suc (suc k))) all_states (λ b n. stays f (suc k) (suc (suc k)) b (omega arith)) a
        (up_to-∈ M.states l) before after in
        omega arith

    -- so one that has not ended after as many steps as there are states never does
    forever : (a : ℕ) → a < M.states → ended f M.states a ≡ false → (k : ℕ) → ended f k a ≡ false
    forever a l late zero = by_test (ended f 0 a) (λ e. clash (stays f 0 M.states a (omega arith) e) late) (λ e. e)
    forever a l late (suc k) =
        let before = forever a l late k in
        by_test (ended f (suc k) a) (λ e.
        let h = many k a l before e in
        let t = how_many_le (ended f (suc k)) all_states in
        let u = up_to_length M.states in
        clash (stays f (suc k) M.states a (omega arith) e) late)
        (λ e. e)

    pub kind : (a : ℕ) → a < M.states → Kind f a
    kind a l =
        let end : ℕ → Bool = λ i. ended f i a in
        by_test (ended f M.states a) (λ e.
        ends_at (first_from end M.states 0) (first_from_passes end M.states 0 (stays f M.states (0 + M.states) a (omega arith) e))
        (λ i h. first_from_before end M.states 0 i (omega arith) h))
        (λ late. goes_on (forever a l late))
