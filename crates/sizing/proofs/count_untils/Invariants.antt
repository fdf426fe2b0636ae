-- `sizing::count_untils` meets its contract: those counted, and those to come, make the whole.
use Prim.Native.Nat.{◌+◌}
use mathlib.Core.Path.{◌≡◌}
use lib.ListN.{length}
use Rattle.reduction.specs.Built.{untils}
use Rattle.transitions.specs.Views.{rows_of}
use Rattle.transitions.proofs.Accepted.{rows_after}
use Rattle.sizing.proofs.count_untils.Given as goal

abbrev pub invariant-loop-i : goal.invariant-loop-i
invariant-loop-i l = l.untils + length (untils (rows_after l.f.bytes.now l.f.rows l.i)) ≡ length (untils (rows_of l.f))
