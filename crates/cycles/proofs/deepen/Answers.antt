-- `cycles::deepen` meets its contract: a pass over the hyperedges, and one over the cover edges.
use Prim.Native.Nat.{ℕ, ◌+◌}
use mathlib.Core.Path.{subst, ◌∙◌}
use Rattle.wire.specs.Layout.{items, end}
use Rattle.graph.specs.Format.{graph_header}
use Rattle.graph.specs.Layouts.{hyper_layout, cover_layout, decoded}
use Rattle.cycles.specs.Labels.{Within, CoverFalls, Deeper}
use Rattle.cycles.proofs.Labels.{pass_along, pass_over, hypers_within}
use Rattle.cycles.proofs.deepen.Goals as goal
use Rattle.cycles.proofs.deepen.Goals.{After-deepen_covers-over}

-- the pass over the cover edges, which stand behind the hyperedges
covers : (c : After-deepen_covers-over) → let a = c.args in let s = a.s.now in
    Deeper a.n (items (cover_layout s a.n) a.c (end (hyper_layout s a.n) a.h graph_header)) CoverFalls c.deepen_hypers-along.new.labels
    c.deepen_covers-over.new.labels c.deepen_covers-over.result
covers c =
    let a = c.args in
    let s = a.s.now in
    subst (λ (p : ℕ). Deeper a.n (items (cover_layout s a.n) a.c p) CoverFalls c.deepen_hypers-along.new.labels
    c.deepen_covers-over.new.labels c.deepen_covers-over.result) c.requires.middle_value c.deepen_covers-over.ensures.deeper

pub deepen_covers-over-requires : goal.deepen_covers-over-requires
deepen_covers-over-requires c = let d = c.deepen_hypers-along.ensures in record { sound = rw c.requires.middle_value c.requires.scannable.covers; n_bound = (c.requires.n_bound.0, d.same_length ∙ c.requires.n_bound.1); c_bound = c.requires.c_bound; within = hypers_within d 4294901760 c.requires.within }

-- no label is above the largest by more than the cover edges
within : (c : After-deepen_covers-over) → let a = c.args in
    (m : ℕ) → Within a.n a.labels.now m → Within a.n c.deepen_covers-over.new.labels (m + a.c)
within c m o = c.deepen_covers-over.ensures.by_index m (hypers_within c.deepen_hypers-along.ensures m o)

pub returns-then-along : goal.returns-then-along
unfolding decoded
returns-then-along c = record { pass = pass_along c.deepen_hypers-along.ensures (covers (goal.at.returns-then-along c).After-deepen_covers-over) c.if-along.true; by_index = within (goal.at.returns-then-along c).After-deepen_covers-over }

pub returns : goal.returns
unfolding decoded
returns c = record { pass = pass_over c.deepen_hypers-along.ensures (covers (goal.at.returns c).After-deepen_covers-over) c.if-along.false; by_index = within (goal.at.returns c).After-deepen_covers-over }
