-- `Claims::are_backed` meets its contract: the finite nodes passed are marked.
use Rattle.support.specs.Claims.{claimed_value}
use Rattle.claimed.specs.Targets.{Backed}
use Rattle.claimed.proofs.Claims.are_backed.Given as goal

abbrev pub invariant-loop-v : goal.invariant-loop-v
invariant-loop-v l = Backed l.from l.v (claimed_value l.self.bytes.now) l.marks
