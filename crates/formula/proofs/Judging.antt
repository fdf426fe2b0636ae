-- The tests of a row's fields, in terms of the row: the fields that it doesn't use are zero, and its names exist. Assumes nothing.
use Prim.Native.Nat.{ℕ, ◌≤◌, ◌<◌}
use mathlib.Core.Bool.{Bool, true, cond, ◌&&◌, ◌||◌, and-true}
use mathlib.Core.Path.{◌≡◌, refl, sym, ◌∙◌}
use lib.Dec.{eqb, ltb}
use borrow.Author.Tests.{ltb-true, lt-ltb}
use Rattle.lists.specs.Lists.{◌∈◌, all}
use Rattle.lists.proofs.Tests.{and_left, and_right}
use Rattle.lists.proofs.Lists.{all_true, true_all}
use Rattle.syntax.specs.declared.Row.{Row}
use Rattle.syntax.specs.Rows.{row_of, uses_left, uses_right, uses_bound, left_limit, right_limit, operands, propositions, actions}
use Rattle.operands.proofs.Operators.{by_operator}
use Rattle.formula.proofs.Spelt.{spare_zero}

-- a field that is not used is zero
abbrev pub idle : (used : Bool) → (field : ℕ) → Bool
idle used field = used || eqb field 0

-- a field that is used names one of so many
abbrev pub named : (used : Bool) → (field limit : ℕ) → Bool
named used field limit = cond used (ltb field limit) true

-- all four fields
abbrev Spare : (o l r z b : ℕ) → Bool
Spare o l r z b = idle (uses_left o) l && (idle (uses_right o) r && (eqb z 0 && idle (uses_bound o) b))

spare_is : (o l r z b : ℕ) → o ≤ 11 → spare_zero (row_of o l r b) l r z b ≡ Spare o l r z b
unfolding row_of
spare_is o l r z b =
    by_operator (λ (o : ℕ). spare_zero (row_of o l r b) l r z b ≡ Spare o l r z b) refl refl refl refl refl refl (simp and-true) (simp and-true) (simp and-true) (simp and-true) (simp and-true) (simp and-true) o

-- what each test says
pub record Idle (o l r z b : ℕ) : Type 0 where
  pub left : idle (uses_left o) l ≡ true
  pub right : idle (uses_right o) r ≡ true
  pub zero : eqb z 0 ≡ true
  pub bound : idle (uses_bound o) b ≡ true

module _ (o l r z b : ℕ) (known : o ≤ 11) where
  pub fields_spare : Idle o l r z b → spare_zero (row_of o l r b) l r z b ≡ true
  fields_spare i = spare_is o l r z b known ∙ rw (i.left, i.right, i.zero) i.bound

  pub spare_fields : spare_zero (row_of o l r b) l r z b ≡ true → Idle o l r z b
  spare_fields e =
      let all = sym (spare_is o l r z b known) ∙ e in
      let rest = and_right (idle (uses_left o) l) _ all in
      let last = and_right (idle (uses_right o) r) _ rest in
      record { left = and_left _ _ all; right = and_left _ _ rest; zero = and_left _ _ last; bound = and_right (eqb z 0) _ last }

-- the names of a row exist: its propositions are below p, its operands are earlier rows, and its action is one of a byte
abbrev NamesExist : (p place : ℕ) → Row → Bool
NamesExist p place row = all (λ i. ltb i p) (propositions row) && (all (λ l. ltb l place) (operands row) && all (λ k. ltb k 256) (actions row))

-- both fields
abbrev Both : (p place o l r : ℕ) → Bool
Both p place o l r = named (uses_left o) l (left_limit p place o) && named (uses_right o) r (right_limit place o)

name_fields : (p place o l r b : ℕ) → o ≤ 11 → NamesExist p place (row_of o l r b) ≡ Both p place o l r
unfolding row_of all
name_fields p place o l r b =
    by_operator (λ (o : ℕ). NamesExist p place (row_of o l r b) ≡ Both p place o l r)
    refl refl (simp and-true) (simp and-true) (simp and-true) (simp and-true) (simp and-true) (simp and-true) (simp and-true) (simp and-true) (simp and-true) (simp and-true) o

pub record Named (p place : ℕ) (row : Row) : Type 0 where
  pub existing : {q : ℕ} → q ∈ propositions row → q < p
  pub earlier : {l : ℕ} → l ∈ operands row → l < place
  pub acting : {k : ℕ} → k ∈ actions row → k < 256

module _ (p place o l r b : ℕ) (known : o ≤ 11) where
  pub fields_named : named (uses_left o) l (left_limit p place o) ≡ true → named (uses_right o) r (right_limit place o) ≡ true → Named p place (row_of o l r b)
  fields_named left right =
      let row = row_of o l r b in
      let e : NamesExist p place row ≡ true = name_fields p place o l r b known ∙ rw left right in
      let qs = all (λ q. ltb q p) (propositions row) in
      let ls = all (λ l. ltb l place) (operands row) in
      let ks = all (λ k. ltb k 256) (actions row) in
      let rest = and_right qs (ls && ks) e in
      record {
        existing = λ {q} m. ltb-true q p (all_true _ _ (and_left qs (ls && ks) e) q m);
        earlier = λ {l} m. ltb-true l place (all_true _ _ (and_left ls ks rest) l m);
        acting = λ {k} m. ltb-true k 256 (all_true _ _ (and_right ls ks rest) k m);
      }

  pub named_fields : Named p place (row_of o l r b) → (named (uses_left o) l (left_limit p place o) ≡ true) × (named (uses_right o) r (right_limit place o) ≡ true)
  named_fields n =
      let row = row_of o l r b in
      let exist : NamesExist p place row ≡ true =
      rw (
        true_all (λ q. ltb q p) (propositions row) (λ q m. lt-ltb q p (n.existing m)),
        true_all (λ l. ltb l place) (operands row) (λ l m. lt-ltb l place (n.earlier m)),
      ) (true_all (λ k. ltb k 256) (actions row) (λ k m. lt-ltb k 256 (n.acting m))) in
      let both = sym (name_fields p place o l r b known) ∙ exist in
      (and_left _ _ both, and_right (named (uses_left o) l (left_limit p place o)) _ both)
