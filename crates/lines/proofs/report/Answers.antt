-- `lines::report` meets its contract: the lines are made in a room that holds any, then ROOM, then they are copied to the front.
use mathlib.Core.Path.{◌≡◌, ◌∙◌}
use native.Mathlib.Omega.{arith}
use lib.ListN.{length}
use Rattle.decimals.proofs.Writing.{lent}
use Rattle.lines.proofs.Lines.{lines_length, length_now, lines_front, no_room, written}
use borrow.Author.Rules.{rules}
use Rattle.lines.proofs.report.Goals as goal

pub put_lines-requires : goal.put_lines-requires
put_lines-requires c =
    let numbers = c.args.numbers.now in
    let size : length numbers ≡ 15 = search rules in
    omega (arith, lines_length numbers)

pub returns-then-room-length : goal.returns-then-room-length
returns-then-room-length c = no_room c.args.numbers.now c.args.room.now (omega (arith, c.put_lines.ensures.laid.next_is))

pub returns : goal.returns
returns c =
    let put = c.put_lines.ensures in
    written c.args.numbers.now c.args.room.now (c.copy_from_slice.ensures.after ∙ lines_front (lent put (search rules))) (length_now put.laid) (omega arith)
