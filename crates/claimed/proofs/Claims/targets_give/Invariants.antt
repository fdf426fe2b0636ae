-- `Claims::targets_give` meets its contract: the targets that are left are sound exactly where all are, and the greatest so far and theirs make
-- the whole.
use Rattle.std.proofs.Common.{◌≡◌, ℕ, ◌+◌, ◌-◌, ◌*◌, max}
use Rattle.value.specs.Stored.{stored}
use Rattle.wire.specs.Layout.{items}
use Rattle.rules.specs.Rounds.{worst}
use Rattle.graph.specs.Format.{target_width}
use Rattle.graph.specs.Layouts.{target_layout}
use Rattle.support.specs.Claims.{claimed_value}
use Rattle.claimed.proofs.Targets.{Rest}
use Rattle.claimed.proofs.Claims.targets_give.Given as goal

abbrev pub invariant-loop-p : goal.invariant-loop-p
invariant-loop-p l =
    (k : ℕ) → l.at + k * target_width ≡ l.end
    → (i : ℕ) × (l.p + i * target_width ≡ l.end) × Rest (target_layout l.s l.self.nodes) k l.at i l.p
    × (max l.most (stored (worst (claimed_value l.self.bytes.now) (items (target_layout l.s l.self.nodes) i l.p))) ≡ stored (worst (claimed_value l.self.bytes.now) (items (target_layout l.s l.self.nodes) k l.at)))

abbrev pub decreases-loop-p : goal.decreases-loop-p
decreases-loop-p l = l.end - l.p
