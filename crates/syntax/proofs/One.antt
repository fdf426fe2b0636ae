-- One answer: two calls with the same arguments that satisfy the contract of a public function agree.
-- Here a are the arguments, r is the result, and s is what stands in each argument at the end. Assumes nothing.
use mathlib.Core.Path.{◌≡◌, sym, ◌∙◌}
use Rattle.syntax.proofs.row_at.Reads as row_at

-- `syntax::row_at`
pub one_row_at : (κs : _) (a : _) (r r' : _) (s s' : _) → row_at.Post κs a r s → row_at.Post κs a r' s'
    → r ≡ r'
one_row_at κs a r r' s s' p q = p ∙ sym q
