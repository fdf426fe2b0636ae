-- One answer and one content of every lent room: two calls with the same arguments that satisfy the contract of a public function agree.
-- Here a are the arguments, r is the result, and s is what stands in each argument at the end, in the order of the parameters. Assumes nothing.
use mathlib.Core.Path.{◌≡◌, sym, ◌∙◌}
use Rattle.build.proofs.build.Reads as build
use Rattle.build.proofs.count_nodes.Reads as count-nodes

-- `build::build`: the answer and the room
pub one_build : (κs : _) (a : _) (r r' : _) (s s' : _) → build.Post κs a r s → build.Post κs a r' s'
    → (r ≡ r') × (s.1.1.1.0.now ≡ s'.1.1.1.0.now)
one_build κs a r r' s s' p q = (p.0 ∙ sym q.0, p.1 ∙ sym q.1)

-- `build::count_nodes`
pub one_count_nodes : (κs : _) (a : _) (r r' : _) (s s' : _) → count-nodes.Post κs a r s → count-nodes.Post κs a r' s'
    → r ≡ r'
one_count_nodes κs a r r' s s' p q = p ∙ sym q
