-- `text::text` meets its contract: the formula is checked first, then ROOM, then the text is stored from the front.
use mathlib.Core.Path.{refl, sym, ap}
use native.Mathlib.Omega.{arith}
use borrow.Author.Rules.{rules}
use lib.ListN.{length}
use Rattle.wire.specs.Bytes.{Bytes}
use Rattle.syntax.specs.Message.{read_formula}
use Rattle.formula.proofs.Answered.{checked_refused}
use Rattle.text.proofs.Accepted.{Root, checked_root}
use Rattle.text.proofs.Answers.{refused, no_room, written}
use Rattle.wire.proofs.Reading.{passed}
use Rattle.decimals.proofs.Writing.{lent}
use Rattle.wire.proofs.Laid.{said}
use Rattle.text.proofs.text.Goals as goal
use Rattle.text.proofs.text.Goals.{In_ok-rows}
use Rattle.text.proofs.text.Goals.{In_ok-rows}

bytes : (c : In_ok-rows) → Bytes c.args.s.now
bytes c i = omega (arith, c.type_inv.s i)

-- the root of the accepted message
root : (c : In_ok-rows) → Root (read_formula c.args.p c.args.s.now) c.args.s.now c.in_ok-rows.rows
root c = checked_root _ _ (bytes c) c.in_ok-rows.ensures

pub overflow_sub-root : goal.overflow_sub-root
overflow_sub-root c = (root c).some_row

pub row_length-requires : goal.row_length-requires
row_length-requires c = record { ready = (root c).ready; short = (root c).short }

pub returns-then-room-row_length : goal.returns-then-room-row_length
returns-then-room-row_length c =
    let r = root (goal.at.returns-then-room-row_length c).In_ok-rows in
    no_room (read_formula c.args.p c.args.s.now) c.args.room.now r.rows r.reads (omega (arith, ap length r.text_is))

pub put_row-requires : goal.put_row-requires
put_row-requires c =
    let r = root (goal.at.put_row-requires c).In_ok-rows in
    record { ready = r.ready; fits = omega arith }

pub returns-in_err-rows : goal.returns-in_err-rows
returns-in_err-rows c = refused (read_formula c.args.p c.args.s.now) c.args.room.now (checked_refused _ (sym c.in_err-rows.ensures)) (passed c.from_residual.ensures)

pub returns : goal.returns
returns c =
    let r = root (goal.at.returns c).In_ok-rows in
    written (read_formula c.args.p c.args.s.now) c.args.room.now r.rows r.reads (said (lent c.put_row.ensures (search rules)) (sym r.text_is) refl refl)
