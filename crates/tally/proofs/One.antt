-- One answer and one content of every lent room: two calls with the same arguments that satisfy the contract of a public function agree.
-- Here a are the arguments, r is the result, and s is what stands in each argument at the end, in the order of the parameters. Assumes nothing.
use mathlib.Core.Path.{◌≡◌, sym, ◌∙◌}
use Rattle.tally.proofs.Tally.zero.Reads as Tally-zero
use Rattle.tally.proofs.Tally.enter.Reads as Tally-enter
use Rattle.tally.proofs.Tally.numbers.Reads as Tally-numbers

-- `tally::Tally::zero`
pub one_zero : (κs : _) (a : _) (r r' : _) (s s' : _) → Tally-zero.Post κs a r s → Tally-zero.Post κs a r' s'
    → r ≡ r'
one_zero κs a r r' s s' p q = p ∙ sym q

-- `tally::Tally::enter`: the tally and the answer
pub one_enter : (κs : _) (a : _) (r r' : _) (s s' : _) → Tally-enter.Post κs a r s → Tally-enter.Post κs a r' s'
    → r ≡ r'
one_enter κs a r r' s s' p q = p ∙ sym q

-- `tally::Tally::numbers`
pub one_numbers : (κs : _) (a : _) (r r' : _) (s s' : _) → Tally-numbers.Post κs a r s → Tally-numbers.Post κs a r' s'
    → r ≡ r'
one_numbers κs a r r' s s' p q = p ∙ sym q
