-- `transitions::views::Out::count_near` meets its contract: all are looked at where no action and no bound is given, else those are counted.
use Rattle.std.proofs.Common.{◌≡◌, ℕ, length, sym, ap, ◌∙◌}
use Rattle.lists.specs.Making.{keep}
use Rattle.wire.proofs.Layouts.{items_length}
use Rattle.syntax.specs.declared.Action.{Action}
use Rattle.syntax.specs.declared.Action.TheVariants.{Any, Only}
use Rattle.reduction.specs.Built.{looks_at}
use Rattle.transitions.specs.Views.{list_of}
use Rattle.transitions.specs.Looked.{lowest, highest, is_near}
use Rattle.transitions.proofs.Counting.{coded_keep, unbounded_all}
use Rattle.transitions.proofs.views.Out.count_near.Goals as goal
use Rattle.transitions.proofs.views.Out.count_near.Goals.{After-code-most}

-- those that are looked at by the action and the bound are those by the numbers that say them
coded : (c : After-code-most) (A : Action) → let a = c.args in let us = list_of a.self in
    length (keep (is_near (lowest A) (highest A) c.code-most.result) us) ≡ length (keep (looks_at A a.bound) us)
coded c A =
    let a = c.args in
    let us = list_of a.self in
    ap (λ (most : ℕ). length (keep (is_near (lowest A) (highest A) most) us)) c.code-most.ensures
    ∙ ap length (sym (coded_keep A a.bound us (λ u i. a.self.reads.weights_fit i) (λ u i. a.self.reads.actions_fit i)))

pub returns-in-Unbounded : goal.returns-in-Unbounded
returns-in-Unbounded c =
    let a = c.args in
    let us = list_of a.self in
    rw (c.in-Any.is, c.in-Unbounded.is) (sym (unbounded_all us ∙ items_length _ _ _))

pub returns-in_default : goal.returns-in_default
returns-in_default c =
    rw c.in-Any.is (c.count.ensures ∙ coded (goal.at.returns-in_default c).After-code-most Any)

pub returns-in-Only : goal.returns-in-Only
returns-in-Only c =
    rw c.in-Only.is (c.count-in-Only.ensures ∙ coded (goal.at.returns-in-Only c).After-code-most (Only c.in-Only.k))
