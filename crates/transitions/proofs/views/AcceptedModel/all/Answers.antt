-- `transitions::views::AcceptedModel::all` meets its contract: an accepted model's transitions fit and lead to its states.
use Rattle.std.proofs.Common.{refl}
use Rattle.transitions.specs.Held.{held_model}
use Rattle.transitions.proofs.Accepted.{all_read}
use Rattle.transitions.proofs.views.AcceptedModel.all.Goals as goal

pub invariant_of-result : goal.invariant_of-result
invariant_of-result c = record { reads = all_read c.args.self.holds }

pub returns : goal.returns
unfolding held_model
returns c = refl
