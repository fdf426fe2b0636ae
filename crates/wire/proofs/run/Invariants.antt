-- `wire::run` meets its contract: the records that are left may be read, and their run ends the whole run.
use Rattle.wire.specs.Read.{Read}
use Rattle.wire.specs.Runs.{Runs, MayRun}
use Rattle.wire.specs.declared.State.{State}
use Rattle.wire.proofs.run.Given as goal

abbrev pub invariant-loop : goal.invariant-loop
invariant-loop g l = record {
  may : MayRun (goal.F-pre g l.fn.read) (goal.F-post g l.fn.read) l.counter l.st;
  rest_ends : (r : Read State) → Runs (goal.F-post g l.fn.read) l.counter l.st r → Runs (goal.F-post g l.fn.read) l.fn.k l.fn.first r;
}
