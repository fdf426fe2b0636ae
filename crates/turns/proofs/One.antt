-- One answer: two calls with the same arguments that satisfy the contract of a public function agree. Here T is the type that the call is
-- at, L and E what is known of it, a are the arguments, r is the result, and s is what stands in each argument at the end, in the order of
-- the parameters. Assumes nothing.
use mathlib.Core.Path.{◌≡◌, sym, ◌∙◌}
use Rattle.turns.proofs.number.Reads as number
use Rattle.turns.proofs.count.Reads as count
use Rattle.turns.proofs.OutcomeEnded.number.Reads as Outcome-number
use Rattle.turns.proofs.OutcomeEnded.count.Reads as Outcome-count

-- `turns::number`
pub one_number : (T : _) (L : _) (E : _) (d : _) (κs : _) (a : _) (r r' : _) (s s' : _) → number.Post T L E d κs a r s → number.Post T L E d κs a r' s'
    → r ≡ r'
one_number T L E d κs a r r' s s' p q = p ∙ sym q

-- `turns::count`
pub one_count : (T : _) (L : _) (E : _) (d : _) (κs : _) (a : _) (r r' : _) (s s' : _) → count.Post T L E d κs a r s → count.Post T L E d κs a r' s'
    → r ≡ r'
one_count T L E d κs a r r' s s' p q = p ∙ sym q

-- `Outcome::number`
pub one_outcome_number : (κs : _) (a : _) (r r' : _) (s s' : _) → Outcome-number.Post κs a r s → Outcome-number.Post κs a r' s'
    → r ≡ r'
one_outcome_number κs a r r' s s' p q = p ∙ sym q

-- `Outcome::count`
pub one_outcome_count : (κs : _) (a : _) (r r' : _) (s s' : _) → Outcome-count.Post κs a r s → Outcome-count.Post κs a r' s'
    → r ≡ r'
one_outcome_count κs a r r' s s' p q = p ∙ sym q
