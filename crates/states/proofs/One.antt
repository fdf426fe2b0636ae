-- One answer and one content of every lent room: two calls with the same arguments that satisfy the contract of a public function agree.
-- Here a are the arguments, r is the result, and s is what stands in each argument at the end, in the order of the parameters. Assumes nothing.
use mathlib.Core.Path.{◌≡◌, sym, ◌∙◌}
use Rattle.states.proofs.settle.Reads as settle
use Rattle.states.proofs.graph.Reads as graph
use Rattle.states.proofs.nodes.Reads as nodes

-- `states::settle`: the answer, the room of bytes and the room of values
pub one_settle : (κs : _) (a : _) (r r' : _) (s s' : _) → settle.Post κs a r s → settle.Post κs a r' s'
    → (r ≡ r') × (s.1.1.1.0.now ≡ s'.1.1.1.0.now) × (s.1.1.1.1.0.now ≡ s'.1.1.1.1.0.now)
one_settle κs a r r' s s' p q = (p.0 ∙ sym q.0, p.1.0 ∙ sym q.1.0, p.1.1.0 ∙ sym q.1.1.0)

-- `states::graph`: the answer and the room
pub one_graph : (κs : _) (a : _) (r r' : _) (s s' : _) → graph.Post κs a r s → graph.Post κs a r' s'
    → (r ≡ r') × (s.1.1.0.now ≡ s'.1.1.0.now)
one_graph κs a r r' s s' p q = (p.0 ∙ sym q.0, p.1.0 ∙ sym q.1.0)

-- `states::nodes`
pub one_nodes : (κs : _) (a : _) (r r' : _) (s s' : _) → nodes.Post κs a r s → nodes.Post κs a r' s'
    → r ≡ r'
one_nodes κs a r r' s s' p q = p ∙ sym q
