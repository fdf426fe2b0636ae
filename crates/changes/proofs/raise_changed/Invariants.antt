-- `changes::raise_changed` meets its contract: the first half is brought up at the first nodes of the list.
use Rattle.changes.proofs.Listing.{Raising}
use Rattle.changes.proofs.raise_changed.Given as goal

abbrev pub invariant-loop-node : goal.invariant-loop-node
invariant-loop-node l = Raising l.n l.node-index l.initial.room l.room l.nodes
