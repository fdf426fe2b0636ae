-- One answer: two calls with the same arguments that satisfy the contract of a public function agree.
-- Here a are the arguments, r is the result, and s is what stands in each argument at the end. Assumes nothing.
use mathlib.Core.Path.{◌≡◌, sym, ◌∙◌}
use Rattle.ordered.proofs.in_order.Reads as in_order

-- `ordered::in_order`
pub one_in_order : (κs : _) (a : _) (r r' : _) (s s' : _) → in_order.Post κs a r s → in_order.Post κs a r' s' → r ≡ r'
one_in_order κs a r r' s s' p q = p ∙ sym q
