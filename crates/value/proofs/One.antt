-- One answer: two calls with the same arguments that satisfy the contract of a public function agree.
-- Here a are the arguments, r is the result, and s is what stands in each argument at the end. Assumes nothing.
use mathlib.Core.Path.{◌≡◌, sym, ◌∙◌}
use Rattle.value.proofs.Bound.coded.Reads as Bound-coded
use Rattle.value.proofs.Bound.code.Reads as Bound-code
use Rattle.value.proofs.Value.add.Reads as Value-add
use Rattle.value.proofs.Value.greatest.Reads as Value-greatest
use Rattle.value.proofs.Value.least.Reads as Value-least
use Rattle.value.proofs.Value.within.Reads as Value-within

-- `value::Bound::coded`
pub one_coded : (κs : _) (a : _) (r r' : _) (s s' : _) → Bound-coded.Post κs a r s → Bound-coded.Post κs a r' s' → r ≡ r'
one_coded κs a r r' s s' p q = p ∙ sym q

-- `value::Bound::code`
pub one_code : (κs : _) (a : _) (r r' : _) (s s' : _) → Bound-code.Post κs a r s → Bound-code.Post κs a r' s' → r ≡ r'
one_code κs a r r' s s' p q = p ∙ sym q

-- `value::Value::add`
pub one_add : (κs : _) (a : _) (r r' : _) (s s' : _) → Value-add.Post κs a r s → Value-add.Post κs a r' s' → r.0 ≡ r'.0
one_add κs a r r' s s' p q = p ∙ sym q

-- `value::Value::greatest`
pub one_greatest : (κs : _) (a : _) (r r' : _) (s s' : _) → Value-greatest.Post κs a r s → Value-greatest.Post κs a r' s' → r.0 ≡ r'.0
one_greatest κs a r r' s s' p q = p ∙ sym q

-- `value::Value::least`
pub one_least : (κs : _) (a : _) (r r' : _) (s s' : _) → Value-least.Post κs a r s → Value-least.Post κs a r' s' → r.0 ≡ r'.0
one_least κs a r r' s s' p q = p ∙ sym q

-- `value::Value::within`
pub one_within : (κs : _) (a : _) (r r' : _) (s s' : _) → Value-within.Post κs a r s → Value-within.Post κs a r' s' → r ≡ r'
one_within κs a r r' s s' p q = p ∙ sym q
