-- `transitions::views::Look::count` meets its contract: those counted, and those to come, make the whole.
use Rattle.std.proofs.Common.{◌≡◌, ◌+◌, ◌-◌, ◌*◌, ◌≤◌, length}
use Rattle.model.specs.Format.{transition_width, transition_at}
use Rattle.transitions.specs.Held.{transition_layout}
use Rattle.transitions.specs.Views.{is_near_by}
use Rattle.transitions.proofs.Counting.{passing}
use Rattle.transitions.proofs.views.Look.count.Given as goal

abbrev pub invariant-loop : goal.invariant-loop
invariant-loop l =
    let L = transition_layout l.out.bytes.now in
    let test = is_near_by l.self in
    let left = l.out.many - l.counter in
    (l.at + left * transition_width ≤ length l.out.bytes.now) × (l.near + passing L test left l.at ≡ passing L test l.out.many (transition_at l.out.states l.out.first))
