-- One answer: two calls with the same arguments that satisfy the contract of a public function agree. Here T is the type that the call is
-- at, L and E what is known of it, a are the arguments, r is the result, and s is what stands in each argument at the end, in the order of
-- the parameters. Assumes nothing.
use mathlib.Core.Path.{◌≡◌, sym, ◌∙◌}
use Rattle.settling.proofs.verdict_number.Reads as verdict-number
use Rattle.settling.proofs.verdict_in.Reads as verdict-in
use Rattle.settling.proofs.length.Reads as length
use Rattle.settling.proofs.AnswerEnded.number.Reads as Answer-number
use Rattle.settling.proofs.AnswerEnded.count.Reads as Answer-count
use Rattle.settling.proofs.AnswerOnGraph.length.Reads as Answer-length
use Rattle.settling.proofs.AllStatesEnded.number.Reads as AllStates-number
use Rattle.settling.proofs.AllStatesEnded.count.Reads as AllStates-count
use Rattle.settling.proofs.AllStatesOnGraph.length.Reads as AllStates-length

-- `settling::verdict_number`
pub one_verdict_number : (κs : _) (a : _) (r r' : _) (s s' : _) → verdict-number.Post κs a r s → verdict-number.Post κs a r' s'
    → r ≡ r'
one_verdict_number κs a r r' s s' p q = p ∙ sym q

-- `settling::verdict_in`
pub one_verdict_in : (κs : _) (a : _) (r r' : _) (s s' : _) → verdict-in.Post κs a r s → verdict-in.Post κs a r' s'
    → r ≡ r'
one_verdict_in κs a r r' s s' p q = p ∙ sym q

-- `settling::length`
pub one_length : (T : _) (L : _) (E : _) (d : _) (κs : _) (a : _) (r r' : _) (s s' : _) → length.Post T L E d κs a r s → length.Post T L E d κs a r' s'
    → r ≡ r'
one_length T L E d κs a r r' s s' p q = p ∙ sym q

-- `Answer::number`
pub one_answer_number : (κs : _) (a : _) (r r' : _) (s s' : _) → Answer-number.Post κs a r s → Answer-number.Post κs a r' s'
    → r ≡ r'
one_answer_number κs a r r' s s' p q = p ∙ sym q

-- `Answer::count`
pub one_answer_count : (κs : _) (a : _) (r r' : _) (s s' : _) → Answer-count.Post κs a r s → Answer-count.Post κs a r' s'
    → r ≡ r'
one_answer_count κs a r r' s s' p q = p ∙ sym q

-- `Answer::length`
pub one_answer_length : (κs : _) (a : _) (r r' : _) (s s' : _) → Answer-length.Post κs a r s → Answer-length.Post κs a r' s'
    → r ≡ r'
one_answer_length κs a r r' s s' p q = p ∙ sym q

-- `AllStates::number`
pub one_all_states_number : (κs : _) (a : _) (r r' : _) (s s' : _) → AllStates-number.Post κs a r s → AllStates-number.Post κs a r' s'
    → r ≡ r'
one_all_states_number κs a r r' s s' p q = p ∙ sym q

-- `AllStates::count`
pub one_all_states_count : (κs : _) (a : _) (r r' : _) (s s' : _) → AllStates-count.Post κs a r s → AllStates-count.Post κs a r' s'
    → r ≡ r'
one_all_states_count κs a r r' s s' p q = p ∙ sym q

-- `AllStates::length`
pub one_all_states_length : (κs : _) (a : _) (r r' : _) (s s' : _) → AllStates-length.Post κs a r s → AllStates-length.Post κs a r' s'
    → r ≡ r'
one_all_states_length κs a r r' s s' p q = p ∙ sym q
