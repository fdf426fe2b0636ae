-- One answer: two calls with the same arguments that satisfy the contract of a public function agree.
-- Here a are the arguments, r is the result, and s is what stands in each argument at the end. Assumes nothing.
use mathlib.Core.Path.{◌≡◌, sym, ◌∙◌}
use Rattle.refusal.proofs.Refusal.number.Reads as Refusal-number
use Rattle.refusal.proofs.Fault.number.Reads as Fault-number
use Rattle.refusal.proofs.number.Reads as answer-number
use Rattle.refusal.proofs.offset.Reads as answer-offset

-- `refusal::Refusal::number`
pub one_number : (κs : _) (a : _) (r r' : _) (s s' : _) → Refusal-number.Post κs a r s → Refusal-number.Post κs a r' s'
    → r ≡ r'
one_number κs a r r' s s' p q = p ∙ sym q

-- `refusal::Fault::number`
pub one_fault_number : (κs : _) (a : _) (r r' : _) (s s' : _) → Fault-number.Post κs a r s → Fault-number.Post κs a r' s' → r ≡ r'
one_fault_number κs a r r' s s' p q = p ∙ sym q

-- `refusal::number`
pub one_answer_number : (g : _) (met : _) (κs : _) (a : _) (r r' : _) (s s' : _) → answer-number.Post g met κs a r s → answer-number.Post g met κs a r' s' → r ≡ r'
one_answer_number g met κs a r r' s s' p q = p ∙ sym q

-- `refusal::offset`
pub one_answer_offset : (g : _) (met : _) (κs : _) (a : _) (r r' : _) (s s' : _) → answer-offset.Post g met κs a r s → answer-offset.Post g met κs a r' s' → r ≡ r'
one_answer_offset g met κs a r r' s s' p q = p ∙ sym q
