-- One answer and one content of every lent room: two calls with the same arguments that satisfy the contract of a public function agree.
-- Here a are the arguments, r is the result, and s is what stands in each argument at the end, in the order of the parameters. Assumes nothing.
use mathlib.Core.Path.{◌≡◌, sym, ◌∙◌}
use Rattle.entries.proofs.Entry.returned.Reads as Entry-returned

-- `entries::Entry::returned`
pub one_returned : (κs : _) (a : _) (r r' : _) (s s' : _) → Entry-returned.Post κs a r s → Entry-returned.Post κs a r' s'
    → r ≡ r'
one_returned κs a r r' s s' p q = p ∙ sym q
