-- `ranking::rank_sources` meets its contract: what is passed from here on is passed of the whole, with what was passed before.
use Rattle.std.proofs.Common.{◌≡◌, ℕ, ◌+◌, ◌-◌, ◌≤◌, List, length}
use Rattle.ranking.specs.Ranking.{Passed}
use Rattle.ranking.proofs.rank_sources.Given as goal

abbrev pub invariant-loop : goal.invariant-loop
invariant-loop g l = let e = g.E.Backers in record {
  stands : e.sound l.edges (l.k - l.counter) l.at;
  few : l.next ≤ l.given + l.counter;
  same_length : length l.claims ≡ length l.initial.claims;
  whole : (given : ℕ) (b : List ℕ) → Passed (e.source_at l.edges) (e.next_at l.edges) (e.backing l.edges) (l.k - l.counter) l.at l.next l.claims given b
      → Passed (e.source_at l.edges) (e.next_at l.edges) (e.backing l.edges) l.k l.from l.given l.initial.claims given b;
}
