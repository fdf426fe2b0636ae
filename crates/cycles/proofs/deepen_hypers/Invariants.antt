-- `cycles::deepen_hypers` meets its contract: the hyperedges passed lead no deeper, and no label is deeper than it has to be.
use Rattle.wire.specs.Layout.{items}
use Rattle.graph.specs.Format.{graph_header}
use Rattle.graph.specs.Layouts.{hyper_layout}
use Rattle.cycles.specs.Labels.{label, HyperFalls}
use Rattle.support.proofs.Passing.{Passing}
use Rattle.cycles.proofs.Labels.{Risen}
use Rattle.cycles.proofs.deepen_hypers.Given as goal

abbrev pub invariant-loop-i : goal.invariant-loop-i
invariant-loop-i l =
    let L = hyper_layout l.s l.n in
    Passing L l.h graph_header (HyperFalls (label l.initial.labels) (label l.labels)) l.i l.p × Risen l.n (items L l.h graph_header) HyperFalls l.initial.labels l.labels l.moved

abbrev pub decreases-loop-i : goal.decreases-loop-i
decreases-loop-i l = l.i
