-- `ranks::begin` meets its contract: the claims of the nodes below v are begun.
use Rattle.ranks.specs.Begun.{Begun}
use Rattle.ranks.proofs.begin.Given as goal

abbrev pub invariant-loop-v : goal.invariant-loop-v
invariant-loop-v l = Begun l.v l.words l.initial.claims l.claims
