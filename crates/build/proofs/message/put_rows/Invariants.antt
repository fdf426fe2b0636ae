-- `message::put_rows` meets its contract: the hyperedges of the rows left, and how many they are, make the whole.
use Prim.Native.Nat.{◌+◌}
use mathlib.Core.Path.{◌≡◌}
use lib.ListN.{length}
use Rattle.wire.proofs.Laid.{Left}
use Rattle.transitions.specs.Views.{model_of, rows_of}
use Rattle.transitions.proofs.Accepted.{rows_after}
use Rattle.records.specs.Bytes.{rows_hypers, rows_bytes}
use Rattle.build.proofs.message.put_rows.Given as goal

abbrev pub invariant-loop-r : goal.invariant-loop-r
invariant-loop-r l =
    let M = model_of l.table.model in
    let rest = rows_after l.f.bytes.now l.f.rows l.r in
    Left l.initial.room l.at (rows_bytes M 0 (rows_of l.f)) l.room l.next (rows_bytes M l.r rest)
    × (l.hypers + length (rows_hypers M l.r rest) ≡ length (rows_hypers M 0 (rows_of l.f)))
