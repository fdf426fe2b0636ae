-- `Claims::all_backed` meets its contract: the finite nodes of the blocks passed are marked.
use Rattle.std.proofs.Common.{◌-◌, ◌≤◌}
use Rattle.support.specs.Claims.{claimed_value}
use Rattle.claimed.specs.Targets.{AllBacked}
use Rattle.claimed.proofs.Claims.all_backed.Given as goal

abbrev pub invariant-loop-v : goal.invariant-loop-v
invariant-loop-v l = (l.v ≤ l.self.nodes) × AllBacked l.v (claimed_value l.self.bytes.now) l.marks

abbrev pub decreases-loop-v : goal.decreases-loop-v
decreases-loop-v l = l.self.nodes - l.v
