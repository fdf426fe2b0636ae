-- `links::link_covers` meets its contract: the first j are linked.
use Prim.Native.Nat.{◌+◌}
use mathlib.Core.List.{[]}
use mathlib.Core.Path.{◌≡◌}
use lib.ListN.{length}
use Rattle.links.specs.Links.{cover_at, Linked}
use Rattle.links.proofs.link_covers.Given as goal

abbrev pub invariant-loop-j : goal.invariant-loop-j
invariant-loop-j l = record {
  all : l.at ≡ l.place + l.j;
  there : l.edge ≡ cover_at l.g.bytes.now l.g.nodes l.g.middle l.j;
  heads_long : length l.heads ≡ length l.initial.heads;
  linked : Linked l.g.bytes.now l.g.nodes l.g.middle (length l.initial.places) l.g.hypers [] l.j l.at l.heads l.places;
}
