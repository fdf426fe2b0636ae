-- The operands of a row by the kind of its operator: its unused fields are zero, then its names exist. Assumes nothing.
use Prim.Native.Nat.{ℕ, ◌+◌, ◌≤◌, ◌<◌}
use mathlib.Core.Bool.{Bool, true, false, cond}
use mathlib.Core.List.{List}
use mathlib.Core.Path.{◌≡◌, refl, ◌∙◌}
use native.Mathlib.Omega.{arith}
use lib.Dec.{ltb}
use borrow.Author.Tests.{le-leb, lt-ltb, le-ltb}
use Rattle.wire.specs.Read.{Read, Ok, Err, ◌>>=◌, below, misnamed, field}
use Rattle.wire.proofs.Reading.{reading, good_below}
use Rattle.kinds.specs.declared.Fields.{Fields}
use Rattle.kinds.specs.declared.Operands.{Operands}
use Rattle.kinds.specs.declared.Operands.TheVariants.{None, One, Both}
use Rattle.syntax.specs.Format.{right_at}
use Rattle.syntax.specs.Rows.{row_of}
use Rattle.syntax.specs.Message.{operand, fields_from, row_from}
use Rattle.kinds.specs.Kept.{operands_of}
use Rattle.kinds.specs.Told.{Told, idle, left_name, constant, proposition, one_operand, both_operands}
use Rattle.operands.proofs.Operators.{by_operator, Uses, constant_uses, proposition_uses, pair_uses, next_uses, full_uses}
use Rattle.operands.proofs.Spared.{names_from, fields_told}

-- a row of a known operator is read by its fields
pub row_known : (s : List ℕ) (at offset p place : ℕ) {o : ℕ} → field 1 s at ≡ Ok o → o ≤ 11 → row_from s at offset p place ≡ fields_from s at offset p place o
unfolding row_from
row_known s at offset p place {o} there known = simp (reading, there, le-leb o 11 known)

-- what follows two readings
then_then : {A B C : Type 0} (x : Read A) (f : A → Read B) (g : B → Read C) → (x >>= f) >>= g ≡ x >>= λ a. f a >>= g
unfolding ◌>>=◌
then_then (Ok a) f g = refl
then_then (Err e) f g = refl

-- the operands by the operator
operands_are : (o l r b : ℕ) → o ≤ 11 → operands_of (row_of o l r b) ≡ cond (ltb o 4) None (cond (ltb o 6) (Both l r) (cond (ltb o 8) (One l) (cond (ltb o 10) (Both l r) (One l))))
unfolding row_of operands_of
operands_are o l r b =
    by_operator (λ (o : ℕ). operands_of (row_of o l r b) ≡ cond (ltb o 4) None (cond (ltb o 6) (Both l r) (cond (ltb o 8) (One l) (cond (ltb o 10) (Both l r) (One l)))))
    refl refl refl refl refl refl refl refl refl refl refl refl o

module _ {s : List ℕ} {f : Fields} (t : Told s f) (offset p place : ℕ) where
  abbrev pub kept_of : ℕ → Read Operands
  kept_of o = fields_from s 0 offset p place o >>= λ row. Ok (operands_of row)

  pub constant_kept : (o : ℕ) → o ≤ 1 → kept_of o ≡ constant offset f
  unfolding names_from operand constant
  constant_kept o h =
      let u = constant_uses o h in
      simp (fields_told t u offset p place, then_then, u.of_left, u.of_right, t.bound_told, reading, operands_are o 0 0 f.bound (omega arith), lt-ltb o 4 (omega arith))

  pub proposition_kept : (o : ℕ) → 2 ≤ o → o ≤ 3 → kept_of o ≡ proposition s offset p (idle f.right f.zero f.bound)
  unfolding names_from operand proposition left_name
  proposition_kept o l h =
      let u = proposition_uses o l h in
      let none : (left right bound : ℕ) → operands_of (row_of o left right bound) ≡ None = λ left right bound. operands_are o left right bound (omega arith) ∙ rw u.names in
      simp (fields_told t u offset p place, then_then, u.of_left, u.of_right, u.names, t.bound_told, reading, none)

  -- of a kind with one operand in left, where right is unused or an action
  one_kept : {o : ℕ} (right : Bool) → Uses o true right true false → (cond right (ltb o 10) false ≡ false) → f.right < 256 → ((l r b : ℕ) → operands_of (row_of o l r b) ≡ One l)
      → kept_of o ≡ one_operand s offset place (idle (cond right 0 f.right) f.zero 0)
  unfolding names_from operand one_operand left_name
  one_kept {o} true u acting few one =
      let action : below 1 s right_at 256 (misnamed (offset + right_at)) ≡ Ok f.right = good_below 1 s right_at 256 _ (simp (t.right_told, reading)) few in
      simp (fields_told t u offset p place, then_then, u.of_left, u.of_right, u.names, acting, action, t.bound_told, reading, one)
  one_kept {o} false u acting few one =
      simp (fields_told t u offset p place, then_then, u.of_left, u.of_right, u.names, t.bound_told, reading, one)

  pub next_kept : (o : ℕ) → 6 ≤ o → o ≤ 7 → f.right < 256 → kept_of o ≡ one_operand s offset place (idle f.right f.zero 0)
  next_kept o l h few =
      one_kept false (next_uses o l h) refl few
      (λ left right bound. operands_are o left right bound (omega arith) ∙ rw (le-ltb o 4 (omega arith), le-ltb o 6 l, lt-ltb o 8 (omega arith)))

  pub acting_kept : (o : ℕ) → 10 ≤ o → o ≤ 11 → f.right < 256 → kept_of o ≡ one_operand s offset place (idle 0 f.zero 0)
  acting_kept o l h few =
      one_kept true (full_uses o (omega arith)) (le-ltb o 10 l) few
      (λ left right bound. operands_are o left right bound (omega arith) ∙ rw (le-ltb o 4 (omega arith), le-ltb o 6 (omega arith), le-ltb o 8 (omega arith), le-ltb o 10 l))

  -- of a kind with two
  both_kept : {o : ℕ} {bound : Bool} → Uses o true true bound false → ltb o 10 ≡ true → ((l r b : ℕ) → operands_of (row_of o l r b) ≡ Both l r)
      → kept_of o ≡ both_operands s offset place (idle 0 f.zero (cond bound 0 f.bound))
  unfolding names_from operand both_operands left_name
  both_kept {o} u row both = simp (fields_told t u offset p place, then_then, u.of_left, u.of_right, u.names, row, t.bound_told, reading, both)

  pub pair_kept : (o : ℕ) → 4 ≤ o → o ≤ 5 → kept_of o ≡ both_operands s offset place (idle 0 f.zero f.bound)
  pair_kept o l h =
      both_kept (pair_uses o l h) (lt-ltb o 10 (omega arith))
      (λ left right bound. operands_are o left right bound (omega arith) ∙ rw (le-ltb o 4 l, lt-ltb o 6 (omega arith)))

  pub until_kept : (o : ℕ) → 8 ≤ o → o ≤ 9 → kept_of o ≡ both_operands s offset place (idle 0 f.zero 0)
  until_kept o l h =
      both_kept (full_uses o l) (lt-ltb o 10 (omega arith))
      (λ left right bound. operands_are o left right bound (omega arith) ∙ rw (le-ltb o 4 (omega arith), le-ltb o 6 (omega arith), le-ltb o 8 l, lt-ltb o 10 (omega arith)))
