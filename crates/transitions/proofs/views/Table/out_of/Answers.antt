-- `transitions::views::Table::out_of` meets its contract: a state's transitions are those between its entry and the next.
use Rattle.std.proofs.Common.{sym}
use Rattle.transitions.specs.Held.{held_model}
use Rattle.transitions.proofs.Accepted.{own_read, own_named}
use Rattle.transitions.proofs.Ranges.{starts_own}
use Rattle.transitions.proofs.views.Table.out_of.Goals as goal

pub invariant_of-result : goal.invariant_of-result
invariant_of-result c = let t = c.args.self in record { reads = own_read t.model.holds (starts_own t.right c.args.a c.requires) }

pub returns-clause-list : goal.returns-clause-list
unfolding held_model
returns-clause-list c = sym (starts_own c.args.self.right c.args.a c.requires).are

pub returns-clause-named : goal.returns-clause-named
returns-clause-named c = let t = c.args.self in own_named t.model.holds (starts_own t.right c.args.a c.requires)
