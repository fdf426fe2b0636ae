-- `chains::take_listed` meets its contract: the records of the first nodes that are listed are taken in, and the nodes that they change are listed.
use mathlib.Core.Path.{◌≡◌}
use lib.ListN.{length}
use Rattle.changes.specs.Listed.{Listed}
use Rattle.chains.specs.Taken.{TakenAll}
use Rattle.chains.proofs.take_listed.Given as goal

abbrev pub invariant-loop-i : goal.invariant-loop-i
invariant-loop-i l = record {
  as_long : length l.next ≡ length l.initial.next;
  taken : TakenAll l.g.bytes.now l.g.nodes l.g.hypers l.g.covers l.g.middle l.i l.now l.heads l.places l.initial.room l.room;
  listed : Listed l.g.nodes l.g.nodes l.many l.room l.next;
}
