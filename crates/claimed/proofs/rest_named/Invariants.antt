-- `claimed::rest_named` meets its contract: the targets that are left are sound exactly where all are.
use Rattle.std.proofs.Common.{◌≡◌, ℕ, ◌+◌, ◌-◌, ◌*◌}
use Rattle.graph.specs.Format.{target_width}
use Rattle.graph.specs.Layouts.{target_layout}
use Rattle.claimed.proofs.Targets.{Rest}
use Rattle.claimed.proofs.rest_named.Given as goal

abbrev pub invariant-loop-p : goal.invariant-loop-p
invariant-loop-p l = (k : ℕ) → l.at + k * target_width ≡ l.end → (i : ℕ) × (l.p + i * target_width ≡ l.end) × Rest (target_layout l.s l.n) k l.at i l.p

abbrev pub decreases-loop-p : goal.decreases-loop-p
decreases-loop-p l = l.end - l.p
