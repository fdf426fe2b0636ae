-- One answer and one content of every lent room: two calls with the same arguments that satisfy the contract of a public function agree.
-- Here a are the arguments, r is the result, and s is what stands in each argument at the end, in the order of the parameters. Assumes nothing.
use mathlib.Core.Path.{◌≡◌, sym, ◌∙◌}
use Rattle.rounds.proofs.solve.Reads as solve
use Rattle.rounds.proofs.run.Reads as run

-- `rounds::solve`: the answer and the room
pub one_solve : (κs : _) (a : _) (r r' : _) (s s' : _) → solve.Post κs a r s → solve.Post κs a r' s'
    → (r ≡ r') × (s.1.1.0.now ≡ s'.1.1.0.now)
one_solve κs a r r' s s' p q = (p.0 ∙ sym q.0, p.1.0 ∙ sym q.1.0)

-- `rounds::run`: the answer and the room
pub one_run : (κs : _) (a : _) (r r' : _) (s s' : _) → run.Post κs a r s → run.Post κs a r' s'
    → (r ≡ r') × (s.1.1.0.now ≡ s'.1.1.0.now)
one_run κs a r r' s s' p q = let same : r ≡ r' = p.0 ∙ sym q.0 in (same, p.1 ∙ rw same (sym q.1))
