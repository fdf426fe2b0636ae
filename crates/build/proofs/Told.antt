-- How many hyperedges a row has, told by how many bytes they take: one has 4, and 6 more for each target. Assumes nothing.
use Prim.Native.Nat.{ℕ, zero, suc, ◌+◌, ◌*◌, ◌/◌}
use mathlib.Core.List.{List}
use mathlib.Core.Bool.{Bool, true, false, not}
use mathlib.Core.Path.{◌≡◌, refl}
use native.Mathlib.Omega.{arith}
use lib.ListN.{length}
use Rattle.lists.specs.Making.{span}
use Rattle.value.specs.declared.Bound.{Bound}
use Rattle.rules.specs.Graph.{Target}
use Rattle.graph.proofs.Exact.{hypers_length}
use Rattle.model.specs.Model.{Model, holds}
use Rattle.syntax.specs.declared.Action.{Action}
use Rattle.syntax.specs.declared.Quantifier.TheVariants.{Some, Every}
use Rattle.syntax.specs.declared.Row.{Row}
use Rattle.syntax.specs.declared.Quantifier.{Quantifier}
use Rattle.syntax.specs.declared.Row.TheVariants.{True, False, Proposition, Negation, And, Or, Next, Until}
use Rattle.reduction.specs.Built.{row_edges}
use Rattle.transitions.specs.Looked.{leaf_edges}
use Rattle.sizing.specs.Size.{size_of}
use Rattle.sizing.proofs.Sizes.{size_append, next_size_lem}
use Rattle.sizing.proofs.Whole.{hypers_size, lists_span}
use Rattle.records.specs.Bytes.{row_hypers, row_bytes}
use Rattle.build.specs.Told.{ToldHypers}

-- ---- over the states

module _ (f : ℕ → List (List Target)) where
  -- no targets in each, as many as hyperedges in each, one hyperedge in each
  none_each : ((a : ℕ) → (size_of (f a)).targets ≡ 0) → (a n : ℕ) → (size_of (span f a n)).targets ≡ 0
  unfolding span size_of
  none_each each a zero = refl
  none_each each a (suc n) = rw (size_append (f a) (span f (suc a) n)) (omega (arith, each a, none_each each (suc a) n))

  single_each : ((a : ℕ) → (size_of (f a)).targets ≡ (size_of (f a)).hypers) → (a n : ℕ) → (size_of (span f a n)).targets ≡ (size_of (span f a n)).hypers
  unfolding span size_of
  single_each each a zero = refl
  single_each each a (suc n) = rw (size_append (f a) (span f (suc a) n)) (omega (arith, each a, single_each each (suc a) n))

  one_each : ((a : ℕ) → (size_of (f a)).hypers ≡ 1) → (a n : ℕ) → (size_of (span f a n)).hypers ≡ n
  unfolding span size_of
  one_each each a zero = refl
  one_each each a (suc n) = rw (size_append (f a) (span f (suc a) n)) (omega (arith, each a, one_each each (suc a) n))

-- how many a row has, and how many bytes they take, from its size
row_lists : (M : Model) (r : ℕ) (row : Row) → let z = size_of (span (row_edges M row) 0 M.states) in
    (length (row_hypers M r row) ≡ z.hypers) × (length (row_bytes M r row) ≡ z.hypers * 4 + z.targets * 6)
unfolding row_bytes
row_lists M r row =
    let hs = row_hypers M r row in
    let size = rw (lists_span (λ a. a + M.states * r) (row_edges M row) 0 M.states) at (hypers_size hs) in
    (size.0, omega (arith, hypers_length hs, size.0, size.1))

-- ---- by the kind of row

module _ (n bytes : ℕ) where
  bare_told : (row : Row) → ((M : Model) (a : ℕ) → (size_of (row_edges M row a)).targets ≡ 0) → ToldHypers row n bytes (bytes / 4)
  bare_told row each M r e is =
      let lists = row_lists M r row in
      omega (arith, is, lists.0, lists.1, none_each (row_edges M row) (each M) 0 M.states)

  single_told : (row : Row) → ((M : Model) (a : ℕ) → (size_of (row_edges M row a)).targets ≡ (size_of (row_edges M row a)).hypers) → ToldHypers row n bytes (bytes / 10)
  single_told row each M r e is =
      let lists = row_lists M r row in
      omega (arith, is, lists.0, lists.1, single_each (row_edges M row) (each M) 0 M.states)

  one_told : (row : Row) → ((M : Model) (a : ℕ) → (size_of (row_edges M row a)).hypers ≡ 1) → ToldHypers row n bytes n
  one_told row each M r e is =
      let lists = row_lists M r row in
      omega (arith, e, lists.0, one_each (row_edges M row) (each M) 0 M.states)

  pub and_told : (l r : ℕ) → ToldHypers (And l r) n bytes n
  unfolding size_of
  and_told l r = one_told (And l r) (λ M a. refl)

  pub or_told : (l r : ℕ) → ToldHypers (Or l r) n bytes (bytes / 10)
  unfolding size_of
  or_told l r = single_told (Or l r) (λ M a. refl)

  pub some_told : (A : Action) (l : ℕ) (b : Bound) → ToldHypers (Next Some A l b) n bytes (bytes / 10)
  some_told A l b = single_told (Next Some A l b) (λ M a. rw (next_size_lem M Some A l b a))

  pub every_told : (A : Action) (l : ℕ) (b : Bound) → ToldHypers (Next Every A l b) n bytes n
  every_told A l b = one_told (Next Every A l b) (λ M a. rw (next_size_lem M Every A l b a))

  leaf_none : (b : Bool) → (size_of (leaf_edges b)).targets ≡ 0
  unfolding size_of
  leaf_none true = refl
  leaf_none false = refl

  -- a row of another kind, which no arm took
  pub other_told : (row : Row) → ((l r : ℕ) → row ≡ And l r → ⊥) → ((l r : ℕ) → row ≡ Or l r → ⊥) → ((q : Quantifier) (A : Action) (l : ℕ) (b : Bound) → row ≡ Next q A l b → ⊥)
      → ToldHypers row n bytes (bytes / 4)
  unfolding size_of
  other_told True a o x = bare_told True (λ M a. refl)
  other_told False a o x = bare_told False (λ M a. refl)
  other_told (Proposition i) a o x = bare_told (Proposition i) (λ M a. leaf_none (holds M i a))
  other_told (Negation i) a o x = bare_told (Negation i) (λ M a. leaf_none (not (holds M i a)))
  other_told (And l r) a o x = absurd (a l r refl)
  other_told (Or l r) a o x = absurd (o l r refl)
  other_told (Next q A l b) a o x = absurd (x q A l b refl)
  other_told (Until q l r b) a o x = bare_told (Until q l r b) (λ M a. refl)
