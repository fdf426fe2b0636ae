-- How a field that is used, or not, is read. Assumes nothing.
use Prim.Native.Nat.{ℕ}
use mathlib.Core.Bool.{Bool, true, false}
use mathlib.Core.List.{List}
use mathlib.Core.Path.{◌≡◌, refl, sym, ap, ◌∙◌}
use native.Mathlib.Omega.{arith}
use lib.Dec.{eqb}
use borrow.Author.Tests.{lt-ltb, ltb-true, eq-eqb, eqb-true}
use Rattle.wire.specs.Read.{Ok, field}
use Rattle.wire.proofs.Reading.{below_good, good_below, good_same}
use Rattle.syntax.specs.Message.{ill_formed, spare, operand}
use Rattle.formula.proofs.Judging.{idle, named}

-- a field that is spare where it isn't used, and what it is then
module _ (k : ℕ) (s : List ℕ) (at offset : ℕ) where
  pub spare_good : (used : Bool) {u v : ℕ} → spare used k s at offset ≡ Ok u → field k s at ≡ Ok v → idle used v ≡ true
  unfolding spare
  spare_good true e there = refl
  spare_good false {u} {v} e there =
      let b = below_good k s at 1 _ e in
      let same : Ok v ≡ Ok u = sym there ∙ b.0 in
      let zero : v ≡ u = cc in
      eq-eqb v 0 (omega (arith, b.1))

  pub good_spare : (used : Bool) {v : ℕ} → field k s at ≡ Ok v → idle used v ≡ true → spare used k s at offset ≡ Ok 0
  unfolding spare
  good_spare true there e = refl
  good_spare false {v} there e =
      let zero : v ≡ 0 = eqb-true v 0 e in
      good_below k s at 1 (ill_formed offset) there (omega arith) ∙ ap Ok zero

-- left or right: first spare where it isn't used, then a name where it is
pub record OperandAt (used : Bool) (s : List ℕ) (at limit v : ℕ) : Type 0 where
  pub there : field 1 s at ≡ Ok v
  pub is_idle : idle used v ≡ true
  pub is_named : named used v limit ≡ true

module _ (s : List ℕ) (at limit offset : ℕ) where
  pub operand_good : (used : Bool) {u v : ℕ} → spare used 1 s at offset ≡ Ok u → operand used s at limit offset ≡ Ok v → OperandAt used s at limit v
  unfolding spare operand
  operand_good true {u} {v} e n =
      let b = below_good 1 s at limit _ n in
      record { there = b.0; is_idle = refl; is_named = lt-ltb v limit b.1 }
  operand_good false {u} {v} e n =
      let b = below_good 1 s at 1 _ e in
      let none : 0 ≡ v = good_same n in
      let same : u ≡ v = omega (arith, b.1) in
      record { there = b.0 ∙ ap Ok same; is_idle = eq-eqb v 0 (omega arith); is_named = refl }

  pub good_operand : (used : Bool) {v : ℕ} → field 1 s at ≡ Ok v → idle used v ≡ true → named used v limit ≡ true → operand used s at limit offset ≡ Ok v
  unfolding operand
  good_operand true {v} there e n = good_below 1 s at limit _ there (ltb-true v limit n)
  good_operand false {v} there e n = ap Ok (sym (eqb-true v 0 e))

-- the field zero is never used
pub zero_good : (s : List ℕ) (at offset : ℕ) {z : ℕ} → spare false 1 s at offset ≡ Ok z → (field 1 s at ≡ Ok z) × (eqb z 0 ≡ true)
unfolding spare
zero_good s at offset {z} e = let b = below_good 1 s at 1 _ e in (b.0, eq-eqb z 0 (omega (arith, b.1)))
