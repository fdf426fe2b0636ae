-- `operands::read_row` meets its contract: the bytes of a row fit, so each field is there, and its kind judges them.
use Prim.Native.Nat.{ℕ, ◌+◌, ◌≤◌}
use mathlib.Core.List.{List}
use mathlib.Core.Path.{◌≡◌, sym, ap, ◌∙◌}
use native.Mathlib.Omega.{arith}
use lib.ListN.{length}
use borrow.Author.Tests.{lt-leb}
use Rattle.refusal.specs.declared.Fault.{Fault}
use Rattle.wire.specs.Bytes.{number}
use Rattle.wire.specs.Read.{Err, field}
use Rattle.wire.proofs.Bytes.{number_below}
use Rattle.wire.proofs.Fields.{field_value, value_is}
use Rattle.wire.proofs.Reading.{reading, never, passed, below_good, below_over}
use Rattle.syntax.specs.Format.{left_at, right_at, zero_at, bound_at}
use Rattle.syntax.specs.Message.{row_from}
use Rattle.kinds.specs.Kept.{judged}
use Rattle.operands.proofs.Keeping.{row_known}
use Rattle.operands.proofs.read_row.Goals as goal

-- a field that fits is not refused
never_short : {A : Type 0} (k : ℕ) (s : List ℕ) (at : ℕ) {e : Fault} → at + k ≤ length s → Err e ≡ field k s at → A
never_short k s at fits refused = absurd (never (refused ∙ field_value k s at fits))

pub returns-in_err-operator : goal.returns-in_err-operator
unfolding row_from
returns-in_err-operator c =
    let here = field_value 1 c.args.row.now 0 (omega (arith, c.requires.1)) in
    let over = below_over 1 _ _ _ _ here (sym c.in_err-operator.ensures) in
    simp (passed c.from_residual.ensures, over.1, reading, here, lt-leb (number 1 c.args.row.now 0) 11 (omega (arith, over.0)))

pub returns-in_err-left : goal.returns-in_err-left
returns-in_err-left c = never_short 1 _ left_at (omega (arith, c.requires.1)) c.in_err-left.ensures

pub returns-in_err-right : goal.returns-in_err-right
returns-in_err-right c = never_short 1 _ right_at (omega (arith, c.requires.1)) c.in_err-right.ensures

pub returns-in_err-zero : goal.returns-in_err-zero
returns-in_err-zero c = never_short 1 _ zero_at (omega (arith, c.requires.1)) c.in_err-zero.ensures

pub returns-in_err-bound : goal.returns-in_err-bound
returns-in_err-bound c = never_short 4 _ bound_at (omega (arith, c.requires.1)) c.in_err-bound.ensures

pub read_kind-requires : goal.read_kind-requires
read_kind-requires c =
    let row = c.args.row.now in
    let right = sym c.in_ok-right.ensures in (
      omega (arith, (below_good 1 _ _ _ _ (sym c.in_ok-operator.ensures)).1),
      record {
        left_told = sym c.in_ok-left.ensures;
        right_told = right;
        zero_told = sym c.in_ok-zero.ensures;
        bound_told = sym c.in_ok-bound.ensures;
      },
      omega (arith, value_is 1 row right_at right, number_below 1 row right_at (λ i. omega (arith, c.type_inv.row i))),
    )

pub returns : goal.returns
returns c =
    let known = below_good 1 _ _ _ _ (sym c.in_ok-operator.ensures) in
    c.read_kind.ensures ∙ ap judged (sym (row_known _ 0 _ _ _ known.0 (omega (arith, known.1))))
