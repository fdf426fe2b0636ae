-- `changes::list_changed` meets its contract: those below v that changed are listed.
use mathlib.Core.Path.{◌≡◌}
use lib.ListN.{length}
use Rattle.changes.specs.Listed.{Listed}
use Rattle.changes.proofs.list_changed.Given as goal

abbrev pub invariant-loop-v : goal.invariant-loop-v
invariant-loop-v l = record {
  as_long : length l.nodes ≡ length l.initial.nodes;
  listed : Listed l.n l.v l.many l.room l.nodes;
}
