-- `sizing::total_size` meets its contract: the sum, and the size of the rows that are left, make the whole.
use mathlib.Core.Path.{◌≡◌}
use Rattle.transitions.specs.Views.{model_of, rows_of}
use Rattle.transitions.proofs.Accepted.{rows_after}
use Rattle.sizing.specs.Size.{add_size, size_of, rows_edges}
use Rattle.sizing.proofs.total_size.Given as goal

abbrev pub invariant-loop-i : goal.invariant-loop-i
invariant-loop-i l =
    let M = model_of l.table.model in
    add_size l.sum (size_of (rows_edges M (rows_after l.f.bytes.now l.f.rows l.i))) ≡ size_of (rows_edges M (rows_of l.f))
