-- `scans::lower` meets its contract.
use Prim.Native.Nat.{◌+◌}
use mathlib.Core.Path.{◌∙◌}
use native.Mathlib.Omega.{arith}
use lib.ListN.{get_or}
use Rattle.value.proofs.Stored.{least_min}
use Rattle.scans.proofs.lower.Goals as goal

pub returns : goal.returns
returns c =
    let a = c.args in
    let own = a.n + c.number_at-source.result in
    let least = c.least-least.ensures ∙ least_min (get_or a.room.now own 0) a.value.0 (omega (arith, c.slice_known-2-1.given own)) (omega arith) in
    rw (least, c.number_at-source.ensures)
