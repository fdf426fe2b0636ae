-- `transitions::views::AcceptedModel::holds` meets its contract: the label at that position is the state's.
use Rattle.std.proofs.Common.{ℕ, sym, ap, ◌∙◌}
use Rattle.model.specs.Model.{bit}
use Rattle.transitions.proofs.Accepted.{label_at_lem}
use Rattle.transitions.proofs.views.AcceptedModel.holds.Goals as goal

pub returns : goal.returns
returns c =
    let a = c.args in
    let label = c.number_at.ensures ∙ sym (label_at_lem a.self.holds a.a c.requires) in
    c.bit.ensures ∙ ap (λ (l : ℕ). bit l a.i) label
