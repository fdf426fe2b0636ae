-- `scans::scan` meets its contract: what is found from here on is found of the whole, with what was found before.
use Rattle.std.proofs.Common.{ℕ, ◌-◌, List, Option}
use Rattle.wire.specs.Begin.{start}
use Rattle.claims.specs.Chain.{Chain}
use Rattle.claims.proofs.scans.scan.Given as goal

abbrev pub invariant-loop : goal.invariant-loop
invariant-loop g l = record {
  readable : g.E.Edges.readable l.edges (l.k - l.counter) l.state;
  whole : (r : Option ℕ) (b : List ℕ) → Chain (g.E.Edges.found l.edges) (l.k - l.counter) l.state l.marks r b
      → Chain (g.E.Edges.found l.edges) l.k (start l.fn.at) l.fn.marks r b;
}
