-- `Claims::ranks_below` meets its contract: the targets passed have a smaller rank.
use Rattle.std.proofs.Common.{◌≡◌, ℕ, ◌+◌, ◌-◌, ◌*◌, ◌<◌}
use Rattle.wire.specs.Layout.{Sound}
use Rattle.graph.specs.Format.{target_width}
use Rattle.rules.specs.Graph.{Target}
use Rattle.graph.specs.Layouts.{target_layout}
use Rattle.support.specs.Claims.{claimed_rank}
use Rattle.support.proofs.Passing.{Passing}
use Rattle.claimed.proofs.Claims.ranks_below.Given as goal

abbrev pub invariant-loop-p : goal.invariant-loop-p
invariant-loop-p l =
    (k : ℕ) → l.at + k * target_width ≡ l.end → Sound (target_layout l.s l.self.nodes) k l.at
    → (i : ℕ) × (l.p + i * target_width ≡ l.end) × Passing (target_layout l.s l.self.nodes) k l.at (λ (t : Target). claimed_rank l.self.bytes.now t.node < l.rank) i l.p

abbrev pub decreases-loop-p : goal.decreases-loop-p
decreases-loop-p l = l.end - l.p
