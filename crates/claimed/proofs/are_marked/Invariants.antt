-- `claimed::are_marked` meets its contract: no bit is gathered exactly where the nodes passed are marked.
use Rattle.std.proofs.Common.{◌≡◌, ◌+◌}
use Rattle.claimed.specs.Targets.{Marked}
use Rattle.claimed.proofs.are_marked.Given as goal

abbrev pub invariant-loop-mark : goal.invariant-loop-mark
invariant-loop-mark l = (l.unmarked ≡ 0 → Marked l.from (l.from + l.mark-index) l.marks) × (Marked l.from l.to l.marks → l.unmarked ≡ 0)
