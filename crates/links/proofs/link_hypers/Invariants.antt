-- `links::link_hypers` meets its contract: the targets of the first j hyperedges are linked.
use Prim.Native.Nat.{◌+◌, ◌*◌}
use mathlib.Core.List.{[]}
use mathlib.Core.Path.{◌≡◌}
use lib.ListN.{length}
use Rattle.graph.specs.Format.{graph_header, hyper_width, target_width}
use Rattle.links.specs.Links.{hyper_at, Linked}
use Rattle.links.proofs.link_hypers.Given as goal

abbrev pub invariant-loop-j : goal.invariant-loop-j
invariant-loop-j l = record {
  there : l.p ≡ hyper_at l.g.bytes.now l.g.nodes l.j;
  counted : l.p ≡ graph_header + l.j * hyper_width + l.place * target_width;
  heads_long : length l.heads ≡ length l.initial.heads;
  linked : Linked l.g.bytes.now l.g.nodes l.g.middle (length l.initial.places) l.j [] 0 l.place l.heads l.places;
}
