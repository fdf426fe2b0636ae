-- `cycles::has_cycle` meets its contract: labels that no pass raises leave no cycle through a cover edge, and labels that pass n raises show one.
use Rattle.std.proofs.Common.{◌+◌, ◌-◌, ◌≤◌}
use Rattle.graph.specs.Viewed.{decoded_of}
use Rattle.cycles.proofs.Labels.{Labelled}
use Rattle.cycles.proofs.has_cycle.Given as goal

abbrev pub invariant-loop : goal.invariant-loop
invariant-loop l = (l.counter ≤ l.graph.nodes + 1) × Labelled (decoded_of l.graph) (l.counter - 1) l.labels
