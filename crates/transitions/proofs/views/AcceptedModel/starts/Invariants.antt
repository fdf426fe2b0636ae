-- `transitions::views::AcceptedModel::starts` meets its contract: the table stands for the states that are passed.
use Rattle.std.proofs.Common.{◌≡◌, ◌≤◌, length}
use Rattle.transitions.proofs.Ranges.{Found}
use Rattle.transitions.proofs.views.AcceptedModel.starts.Given as goal

abbrev pub invariant-loop-a : goal.invariant-loop-a
invariant-loop-a l = (257 ≡ length l.table) × (l.first ≤ l.self.transitions) × Found l.self.bytes.now l.self.states l.self.transitions l.a l.first l.table
