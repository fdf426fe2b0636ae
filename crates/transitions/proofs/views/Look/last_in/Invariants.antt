-- `transitions::views::Look::last_in` meets its contract: none of those behind is looked at.
use Rattle.std.proofs.Common.{◌≡◌, ◌+◌, ◌*◌, ◌≤◌}
use Rattle.lists.specs.Making.{keep}
use Rattle.wire.specs.Layout.{items}
use Rattle.model.specs.Format.{transition_width, transition_at}
use Rattle.transitions.specs.Held.{transition_layout}
use Rattle.transitions.specs.Views.{is_near_by, list_of}
use Rattle.transitions.proofs.views.Look.last_in.Given as goal

abbrev pub invariant-loop-i : goal.invariant-loop-i
invariant-loop-i l =
    let out = l.out in
    let from = transition_at out.states out.first in
    (l.at ≡ from + l.i * transition_width) × (l.i ≤ out.many)
    × (keep (is_near_by l.self) (items (transition_layout out.bytes.now) l.i from) ≡ keep (is_near_by l.self) (list_of out))
