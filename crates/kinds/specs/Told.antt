-- The fields of a row behind its operator, told as numbers: so those that the operator doesn't use can be looked at together.
use Rattle.std.specs.Prelude.{ℕ, ◌+◌, Bool, ◌&&◌, List, ◌≡◌, eqb}
use Rattle.refusal.specs.declared.Refusal.TheVariants.{Form}
use Rattle.wire.specs.Read.{Read, Ok, ◌>>=◌, ◌>>◌, demand, below, misnamed, field}
use Rattle.kinds.specs.declared.Fields.{Fields}
use Rattle.kinds.specs.declared.Operands.{Operands}
use Rattle.kinds.specs.declared.Operands.TheVariants.{None, One, Both}
use Rattle.syntax.specs.Format.{left_at, right_at, zero_at, bound_at}

-- the fields that stand in a row
pub record Told (row : List ℕ) (fields : Fields) : Type 0 where
  pub left_told : field 1 row left_at ≡ Ok fields.left
  pub right_told : field 1 row right_at ≡ Ok fields.right
  pub zero_told : field 1 row zero_at ≡ Ok fields.zero
  pub bound_told : field 4 row bound_at ≡ Ok fields.bound

-- the fields behind left that must be zero, where left is used
abbrev pub idle : (right spare bound : ℕ) → Fields
idle right spare bound = record { left = 0; right = right; zero = spare; bound = bound }

-- whether fields are all zero
abbrev pub all_zero : Fields → Bool
all_zero f = eqb f.left 0 && (eqb f.right 0 && (eqb f.zero 0 && eqb f.bound 0))

-- fields that must be zero, of a row that stands here: the first that isn't is FORM
unfoldable pub unused : (offset : ℕ) → Fields → Read Unit
unused offset f = do
  demand (eqb f.left 0) Form (offset + left_at)
  demand (eqb f.right 0) Form (offset + right_at)
  demand (eqb f.zero 0) Form (offset + zero_at)
  demand (eqb f.bound 0) Form (offset + bound_at)
  Ok tt

-- the operands of a row of each kind: its unused fields first, then left, then right
unfoldable pub left_name : List ℕ → (offset limit : ℕ) → Fields → Read ℕ
left_name row offset limit idle = do
  u ← unused offset idle
  below 1 row left_at limit (misnamed (offset + left_at))

unfoldable pub constant : (offset : ℕ) → Fields → Read Operands
constant offset idle = do
  u ← unused offset idle
  Ok None

unfoldable pub proposition : List ℕ → (offset p : ℕ) → Fields → Read Operands
proposition row offset p idle = do
  l ← left_name row offset p idle
  Ok None

unfoldable pub one_operand : List ℕ → (offset place : ℕ) → Fields → Read Operands
one_operand row offset place idle = do
  l ← left_name row offset place idle
  Ok (One l)

unfoldable pub both_operands : List ℕ → (offset place : ℕ) → Fields → Read Operands
both_operands row offset place idle = do
  l ← left_name row offset place idle
  r ← below 1 row right_at place (misnamed (offset + right_at))
  Ok (Both l r)
