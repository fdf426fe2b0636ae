-- One answer and one content of every lent room: two calls with the same arguments that satisfy the contract of a public function agree.
-- Here a are the arguments, r is the result, and s is what stands in each argument at the end, in the order of the parameters. Assumes nothing.
use mathlib.Core.Path.{◌≡◌, sym, ◌∙◌}
use Rattle.lines.proofs.report.Reads as report

-- `lines::report`: the answer and the room
pub one_report : (κs : _) (a : _) (r r' : _) (s s' : _) → report.Post κs a r s → report.Post κs a r' s'
    → (r ≡ r') × (s.1.0.now ≡ s'.1.0.now)
one_report κs a r r' s s' p q = (p.0 ∙ sym q.0, p.1 ∙ sym q.1)
