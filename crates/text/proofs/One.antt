-- One answer and one content of every lent room: two calls with the same arguments that satisfy the contract of a public function agree.
-- Here a are the arguments, r is the result, and s is what stands in each argument at the end, in the order of the parameters. Assumes nothing.
use mathlib.Core.Path.{◌≡◌, sym, ◌∙◌}
use Rattle.text.proofs.text.Reads as text

-- `text::text`: the answer and the room
pub one_text : (κs : _) (a : _) (r r' : _) (s s' : _) → text.Post κs a r s → text.Post κs a r' s'
    → (r ≡ r') × (s.1.1.0.now ≡ s'.1.1.0.now)
one_text κs a r r' s s' p q = (p.0 ∙ sym q.0, p.1 ∙ sym q.1)
