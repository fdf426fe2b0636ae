-- `message::put_helpers` meets its contract: the helpers of the rows left make the whole.
use Prim.Native.Nat.{◌-◌}
use Rattle.reduction.specs.Built.{untils}
use Rattle.syntax.specs.Format.{place_of}
use Rattle.transitions.specs.Views.{model_of, rows_of}
use Rattle.records.specs.Bytes.{helpers_bytes}
use Rattle.build.proofs.Helpers.{RowsLeft}
use Rattle.build.proofs.message.put_helpers.Given as goal

abbrev pub invariant-loop-i : goal.invariant-loop-i
invariant-loop-i l =
    let M = model_of l.table.model in
    RowsLeft M l.f.bytes.now l.initial.room l.at (helpers_bytes M l.f.rows (untils (rows_of l.f))) l.room l.next (place_of l.i) l.h (l.f.rows - l.i)
