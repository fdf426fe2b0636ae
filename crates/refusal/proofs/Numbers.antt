-- The numbers given back tell the refusals apart, and from OK and BUDGET. Assumes nothing.
use mathlib.Core.Path.{◌≡◌, refl, sym, ap, ◌∙◌}
use Prim.Native.Nat.{ℕ, zero, suc, ◌<◌}
use native.Mathlib.Omega.{arith}
use Rattle.refusal.specs.Number.{over_budget, number_of}
use Rattle.refusal.specs.declared.Refusal.{Refusal}
use Rattle.refusal.specs.declared.Refusal.TheVariants.{Length, Version, Limit, Order, Name, Size, Room, Form, Profile}

-- the refusal of a number; numbers outside the table have none of their own
refusal_of : ℕ → Refusal
refusal_of zero = Form
refusal_of (suc zero) = Form
refusal_of (suc (suc zero)) = Length
refusal_of (suc (suc (suc zero))) = Version
refusal_of (suc (suc (suc (suc zero)))) = Limit
refusal_of (suc (suc (suc (suc (suc zero))))) = Order
refusal_of (suc (suc (suc (suc (suc (suc zero)))))) = Name
refusal_of (suc (suc (suc (suc (suc (suc (suc zero))))))) = Form
refusal_of (suc (suc (suc (suc (suc (suc (suc (suc zero)))))))) = Size
refusal_of (suc (suc (suc (suc (suc (suc (suc (suc (suc zero))))))))) = Room
refusal_of (suc (suc (suc (suc (suc (suc (suc (suc (suc (suc zero)))))))))) = Form
refusal_of (suc (suc (suc (suc (suc (suc (suc (suc (suc (suc (suc n))))))))))) = Profile

back : (r : Refusal) → refusal_of (number_of r) ≡ r
unfolding refusal_of
back Length = refl
back Version = refl
back Limit = refl
back Order = refl
back Name = refl
back Size = refl
back Room = refl
back Form = refl
back Profile = refl

-- one number, one refusal
pub number_tells : {a b : Refusal} → number_of a ≡ number_of b → a ≡ b
number_tells {a} {b} e = sym (back a) ∙ ap refusal_of e ∙ back b

-- no refusal has the number of OK or of BUDGET
pub number_above : (r : Refusal) → over_budget < number_of r
number_above Length = omega arith
number_above Version = omega arith
number_above Limit = omega arith
number_above Order = omega arith
number_above Name = omega arith
number_above Size = omega arith
number_above Room = omega arith
number_above Form = omega arith
number_above Profile = omega arith
