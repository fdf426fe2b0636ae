-- `ranks::past_hypers` meets its contract: what is left ends where all do.
use Rattle.std.proofs.Common.{◌-◌}
use Rattle.rules.specs.Graph.{Hyper}
use Rattle.graph.specs.Format.{graph_header}
use Rattle.graph.specs.Layouts.{hyper_layout}
use Rattle.support.proofs.Passing.{Passing}
use Rattle.ranks.proofs.past_hypers.Given as goal

abbrev pub invariant-loop : goal.invariant-loop
invariant-loop l = Passing (hyper_layout l.s l.n) l.h graph_header (λ (e : Hyper). Unit) (l.h - l.counter) l.p
