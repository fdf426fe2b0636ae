-- Sizes added up over the states: in a loop, in closed form, and of what a model's transitions are in all states. Assumes nothing.
use Prim.Native.Nat.{ℕ, zero, suc, ◌+◌, ◌*◌, ◌-◌, ◌≤◌, ◌<◌, min}
use mathlib.Core.List.Memᴰ
use mathlib.Core.List.{List, [], ◌∷◌}
use mathlib.Core.Bool.{Bool, true, false, not, cond}
use mathlib.Core.Path.{◌≡◌, refl, sym, ap, ap₂, ◌∙◌}
use mir.Val.{bool_byte}
use native.Mathlib.Numerals.{add-one}
use native.Mathlib.Omega.{arith}
use lib.ListN.{length}
use lib.Dec.{eqb}
use borrow.Author.Tests.{eqb-true, eqb-false, ne_eqb}
use Rattle.lists.specs.Lists.{◌∈◌}
use Rattle.lists.specs.Making.{keep, span}
use Rattle.lists.proofs.Kept.{keep_length}
use Rattle.lists.proofs.Tests.{by_test}
use Rattle.wire.proofs.Layouts.{items_length}
use Rattle.value.specs.declared.Bound.{Bound}
use Rattle.syntax.specs.declared.Action.{Action}
use Rattle.rules.specs.Graph.{Target}
use Rattle.model.specs.Format.{transition_at}
use Rattle.syntax.specs.declared.Row.{Row}
use Rattle.syntax.specs.declared.Row.TheVariants.{Until}
use Rattle.reduction.specs.Built.{out, looks_at, near, row_edges, is_until}
use Rattle.transitions.specs.Held.{transition_layout, transitions_from, held_model, HoldsModel}
use Rattle.transitions.proofs.Accepted.{own, out_length, near_length}
use Rattle.model.specs.Model.{Model, Transition, holds}
use Rattle.syntax.specs.declared.Quantifier.{Quantifier}
use Rattle.syntax.specs.declared.Quantifier.TheVariants.{Some, Every}
use Rattle.sizing.specs.declared.Size.{Size}
use Rattle.sizing.specs.Size.{◌⊑◌, no_size, add_size, bare_size, sizes, size_of, state_edges, next_size, step_size}
use Rattle.transitions.specs.Looked.{leaf_edges}
use Rattle.sizing.proofs.Sizes.{same, add_none, none_add, add_assoc, size_append, state_size}
use Rattle.sizing.proofs.Untils.{other_row}

-- the sizes of a leaf, of EX or AX, and of an until, in a state
abbrev pub leaf_at : Model → ℕ → ℕ → Size
leaf_at M i a = size_of (leaf_edges (holds M i a))

abbrev pub next_at : Model → Quantifier → Action → Bound → ℕ → Size
next_at M q A b a = next_size q (length (near M A b a))

abbrev pub step_at : Model → Quantifier → ℕ → Size
step_at M q a = step_size q (length (out M a))

-- the size of a span is that of each list in it, added up
pub span_sizes : (f : ℕ → List (List Target)) (z : ℕ → Size) → ((a : ℕ) → size_of (f a) ≡ z a) → (a n : ℕ) → size_of (span f a n) ≡ sizes z a n
unfolding span sizes size_of
span_sizes f z each a zero = refl
span_sizes f z each a (suc n) = size_append (f a) (span f (suc a) n) ∙ ap₂ add_size (each a) (span_sizes f z each (suc a) n)

-- a row's over all states: that of its nodes, or of an until's helpers, in each
pub row_sizes : (M : Model) (row : Row) (z : ℕ → Size) → is_until row ≡ false → ((a : ℕ) → size_of (row_edges M row a) ≡ z a) → (n : ℕ)
    → size_of (span (state_edges M row) 0 n) ≡ sizes z 0 n
row_sizes M row z e each n =
    span_sizes (state_edges M row) z
    (λ a. state_size M row a refl refl refl ∙ ap (add_size (size_of (row_edges M row a))) (other_row row _ no_size e) ∙ add_none (size_of (row_edges M row a)) ∙ each a) 0 n

pub until_sizes : (M : Model) (q : Quantifier) (l r : ℕ) (b : Bound) (n : ℕ) → size_of (span (state_edges M (Until q l r b)) 0 n) ≡ sizes (step_at M q) 0 n
unfolding size_of
until_sizes M q l r b n =
    span_sizes (state_edges M (Until q l r b)) (step_at M q) (λ a. state_size M (Until q l r b) a refl refl refl ∙ none_add (step_at M q a)) 0 n

-- a loop over the numbers: what is summed, and what is left, make the whole
pub sizes_all : (z : ℕ → Size) (n : ℕ) {sum : Size} → sum ≡ no_size → add_size sum (sizes z 0 (n - 0)) ≡ sizes z 0 n
sizes_all z n e = let all : n - 0 ≡ n = omega arith in rw (e, all) (none_add (sizes z 0 n))

pub sizes_turn : (z : ℕ → Size) (a n : ℕ) (sum one : Size) {w more : Size} → add_size sum (sizes z a (n - a)) ≡ w → a < n → z a ≡ one → more ≡ add_size sum one
    → add_size more (sizes z (a + 1) (n - (a + 1))) ≡ w
unfolding sizes
sizes_turn z a n sum one whole h is e =
    let rest = sizes z (a + 1) (n - (a + 1)) in
    let left : n - a ≡ suc (n - (a + 1)) = omega arith in
    let more : sizes z a (n - a) ≡ add_size one rest = rw (left, add-one) (ap (λ (x : Size). add_size x (sizes z (suc a) (n - suc a))) is) in
    ap (λ (x : Size). add_size x rest) e ∙ add_assoc sum one rest ∙ ap (add_size sum) (sym more) ∙ whole

pub sizes_done : (z : ℕ → Size) (a n : ℕ) (sum : Size) {w : Size} → add_size sum (sizes z a (n - a)) ≡ w → n ≤ a → sum ≡ w
unfolding sizes
sizes_done z a n sum whole h = let none : n - a ≡ 0 = omega arith in sym (add_none sum) ∙ (rw none at whole)

-- ---- leaves

-- in how many of the numbers from a on a test holds
unfoldable tally : (ℕ → Bool) → (a n : ℕ) → ℕ
tally h a zero = 0
tally h a (suc n) = bool_byte (h a) + tally h (suc a) n

pub leaf_size : (b : Bool) → size_of (leaf_edges b) ≡ bare_size (bool_byte b)
unfolding size_of
leaf_size true = refl
leaf_size false = refl

pub bit_few : (b : Bool) → bool_byte b ≤ 1
bit_few true = omega arith
bit_few false = omega arith

leaves : (h : ℕ → Bool) (a n : ℕ) → sizes (λ c. size_of (leaf_edges (h c))) a n ≡ bare_size (tally h a n)
unfolding sizes tally
leaves h a zero = refl
leaves h a (suc n) = ap₂ add_size (leaf_size (h a)) (leaves h (suc a) n)

others : (h : ℕ → Bool) (a n : ℕ) → tally h a n + tally (λ c. not (h c)) a n ≡ n
unfolding tally
others h a zero = refl
others h a (suc n) = let rest = others h (suc a) n in by_test (h a) (λ e. rw e (omega arith)) (λ e. rw e (omega arith))

-- where a test holds in so many states, it fails in all others
pub not_leaves : (h : ℕ → Bool) (n k : ℕ) → bare_size k ≡ sizes (λ c. size_of (leaf_edges (h c))) 0 n → bare_size (n - k) ≡ sizes (λ c. size_of (leaf_edges (not (h c)))) 0 n
not_leaves h n k e =
    let are = ap (λ (z : Size). z.hypers) (e ∙ leaves h 0 n) in
    let rest : n - k ≡ tally (λ c. not (h c)) 0 n = omega (arith, are, others h 0 n) in
    ap bare_size rest ∙ sym (leaves (λ c. not (h c)) 0 n)

-- it holds in no more states than there are
pub leaves_within : (h : ℕ → Bool) (n : ℕ) → sizes (λ c. size_of (leaf_edges (h c))) 0 n ⊑ bare_size n
leaves_within h n = rw (leaves h 0 n) (record { hypers = omega (arith, others h 0 n); targets = omega arith; most = omega arith })

-- ---- what is looked at in all states together

unfoldable pub total : (ℕ → ℕ) → (a n : ℕ) → ℕ
total g a zero = 0
total g a (suc n) = g a + total g (suc a) n

total_like : (g h : ℕ → ℕ) → ((a : ℕ) → g a ≡ h a) → (a n : ℕ) → total g a n ≡ total h a n
unfolding total
total_like g h each a zero = refl
total_like g h each a (suc n) = ap₂ ◌+◌ (each a) (total_like g h each (suc a) n)

total_none : (a n : ℕ) → total (λ c. 0) a n ≡ 0
unfolding total
total_none a zero = refl
total_none a (suc n) = omega (arith, total_none (suc a) n)

total_add : (g h : ℕ → ℕ) (a n : ℕ) → total (λ c. g c + h c) a n ≡ total g a n + total h a n
unfolding total
total_add g h a zero = refl
total_add g h a (suc n) = let rest = total_add g h (suc a) n in omega (arith, rest)

-- one of the numbers counts once
total_past : (x k a n : ℕ) → x < a → total (λ c. cond (eqb x c) k 0) a n ≡ 0
unfolding total
total_past x k a zero l = refl
total_past x k a (suc n) l = let rest = total_past x k (suc a) n (omega arith) in rw (ne_eqb x a (omega arith)) (omega arith)

total_one : (x k a n : ℕ) → a ≤ x → x < a + n → total (λ c. cond (eqb x c) k 0) a n ≡ k
unfolding total
total_one x k a zero p q = absurd (omega arith)
total_one x k a (suc n) p q =
    by_test (eqb x a)
    (λ e. let rest = total_past x k (suc a) n (omega (arith, eqb-true x a e)) in rw e (omega arith))
    (λ e. let rest = total_one x k (suc a) n (omega (arith, eqb-false x a e)) (omega arith) in rw e (omega arith))

-- every transition leaves one of the n states, so what a test keeps of the states' is what it keeps of all
module _ (test : Transition → Bool) where
  abbrev kept : List Transition → ℕ → ℕ
  kept us a = length (keep test (keep (λ u. eqb u.from a) us))

  kept_more : (u : Transition) (us : List Transition) (a : ℕ) → kept (u ∷ us) a ≡ cond (eqb u.from a) (cond (test u) 1 0) 0 + kept us a
  unfolding keep
  kept_more u us a =
      by_test (eqb u.from a)
      (λ e. rw e (by_test (test u) (λ t. rw t (omega arith)) (λ t. rw t (omega arith))))
      (λ e. rw e (omega arith))

  kept_all : (us : List Transition) (n : ℕ) → ((u : Transition) → u ∈ us → u.from < n) → total (kept us) 0 n ≡ length (keep test us)
  unfolding keep
  kept_all [] n named = total_none 0 n
  kept_all (u ∷ us) n named =
      let one = total_one u.from (cond (test u) 1 0) 0 n (omega arith) (omega (arith, named u (Memᴰ.head refl))) in
      let rest = kept_all us n (λ v m. named v (Memᴰ.tail m)) in
      let more : cond (test u) 1 0 + length (keep test us) ≡ length (keep test (u ∷ us)) = by_test (test u) (λ t. rw t (omega arith)) (λ t. rw t (omega arith)) in
      total_like _ _ (kept_more u us) 0 n ∙ total_add (λ a. cond (eqb u.from a) (cond (test u) 1 0) 0) (kept us) 0 n ∙ ap₂ ◌+◌ one rest ∙ more

-- ---- EX and E until, from all transitions that they look at

nexts : (g : ℕ → ℕ) (a n : ℕ) → sizes (λ c. next_size Some (g c)) a n ≡ next_size Some (total g a n)
unfolding sizes total
nexts g a zero = refl
nexts g a (suc n) = ap (add_size (next_size Some (g a))) (nexts g (suc a) n) ∙ same refl refl (omega arith)

-- AX: a hyperedge in each state, none with more targets than all have
every_nexts : (g : ℕ → ℕ) (a n : ℕ) → sizes (λ c. next_size Every (g c)) a n ⊑ record { hypers = n; targets = total g a n; most = total g a n }
unfolding sizes total
every_nexts g a zero = record { hypers = omega arith; targets = omega arith; most = omega arith }
every_nexts g a (suc n) =
    let rest = every_nexts g (suc a) n in
    record { hypers = omega (arith, rest.hypers); targets = omega (arith, rest.targets); most = omega (arith, rest.most) }

-- of an until's helpers in all states, the targets are as many as the hyperedges and the transitions together
pub steps_targets : (q : Quantifier) (g : ℕ → ℕ) (a n : ℕ) → (sizes (λ c. step_size q (g c)) a n).targets ≡ (sizes (λ c. step_size q (g c)) a n).hypers + total g a n
unfolding sizes total
steps_targets q g a zero = refl
steps_targets Some g a (suc n) = omega (arith, steps_targets Some g (suc a) n)
steps_targets Every g a (suc n) = omega (arith, steps_targets Every g (suc a) n)

abbrev pub steps_size : ℕ → ℕ → Size
steps_size n k = record { hypers = n + k; targets = n + 2 * k; most = 1 + min k 1 }

steps : (g : ℕ → ℕ) (a n : ℕ) → sizes (λ c. step_size Some (g c)) a (suc n) ≡ steps_size (suc n) (total g a (suc n))
unfolding sizes total
steps g a zero = same (omega arith) (omega arith) (omega arith)
steps g a (suc n) = ap (add_size (step_size Some (g a))) (steps g (suc a) n) ∙ same (omega arith) (omega arith) (omega arith)

some_steps : (g : ℕ → ℕ) (n : ℕ) → 1 ≤ n → sizes (λ c. step_size Some (g c)) 0 n ≡ steps_size n (total g 0 n)
some_steps g zero some = absurd (omega arith)
some_steps g (suc n) some = steps g 0 n

-- a test that holds of all keeps all
keep_every : (us : List Transition) → keep (λ u. true) us ≡ us
unfolding keep
keep_every [] = refl
keep_every (u ∷ us) = ap (λ r. u ∷ r) (keep_every us)

module _ {m : List ℕ} {n p t : ℕ} (h : HoldsModel m n p t) where
  abbrev M : Model
  M = held_model m n p t

  named : (u : Transition) → u ∈ transitions_from m n 0 t → u.from < n
  unfolding held_model
  named u k = h.well_formed.from_named {t = u} k

  -- the number of transitions that EX or AX looks at, of all
  near_all : (A : Action) (b : Bound) → total (λ a. length (near M A b a)) 0 n ≡ length (keep (looks_at A b) (transitions_from m n 0 t))
  unfolding held_model
  near_all A b = total_like _ _ (near_length M A b) 0 n ∙ kept_all (looks_at A b) (transitions_from m n 0 t) n named

  pub all_nexts : (A : Action) (b : Bound) → sizes (next_at M Some A b) 0 n ≡ next_size Some (length (keep (looks_at A b) (transitions_from m n 0 t)))
  all_nexts A b = nexts (λ a. length (near M A b a)) 0 n ∙ ap (next_size Some) (near_all A b)

  -- which are no more than there are
  near_within : (A : Action) (b : Bound) → total (λ a. length (near M A b a)) 0 n ≤ t
  near_within A b =
      let us = transitions_from m n 0 t in
      omega (arith, near_all A b, keep_length (looks_at A b) us, items_length (transition_layout m) t (transition_at n 0))

  pub some_within : (A : Action) (b : Bound) → sizes (next_at M Some A b) 0 n ⊑ record { hypers = t; targets = t; most = 1 }
  some_within A b =
      rw (nexts (λ a. length (near M A b a)) 0 n)
      (record { hypers = omega (arith, near_within A b); targets = omega (arith, near_within A b); most = omega arith })

  pub every_within : (A : Action) (b : Bound) → sizes (next_at M Every A b) 0 n ⊑ record { hypers = n; targets = t; most = t }
  every_within A b =
      let all = every_nexts (λ a. length (near M A b a)) 0 n in
      record { hypers = all.hypers; targets = omega (arith, all.targets, near_within A b); most = omega (arith, all.most, near_within A b) }

  -- an until looks at all
  pub out_all : total (λ a. length (out M a)) 0 n ≡ t
  unfolding held_model
  out_all =
      total_like _ _ (λ a. out_length M a ∙ ap length (sym (keep_every (own M a)))) 0 n ∙ kept_all (λ u. true) (transitions_from m n 0 t) n named
      ∙ ap length (keep_every (transitions_from m n 0 t)) ∙ items_length (transition_layout m) t (transition_at n 0)

  pub all_steps : sizes (λ a. step_size Some (length (out M a))) 0 n ≡ steps_size n t
  unfolding held_model
  all_steps = some_steps (λ a. length (out M a)) n h.well_formed.some_state ∙ ap (steps_size n) out_all
