-- `ranking::rank` meets its contract: the passes stand, until one gives no rank or n ranks are given.
use Rattle.std.proofs.Common.{◌≤◌}
use Rattle.graph.specs.Viewed.{decoded_of}
use Rattle.ranking.proofs.Standing.{Standing}
use Rattle.ranking.proofs.rank.Given as goal

abbrev pub invariant-loop : goal.invariant-loop
invariant-loop l = (l.counter ≤ l.given) × Standing (decoded_of l.graph) l.initial.claims l.given l.claims
