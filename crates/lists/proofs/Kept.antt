-- What a test keeps of a list: how much, with an element more, and of a mapped list. Assumes nothing.
use mathlib.Core.Path.{◌≡◌, refl, ap}
use mathlib.Core.Bool.{Bool, true, false}
use mathlib.Core.List.{List, [], ◌∷◌, map}
use Prim.Native.Nat.{◌≤◌}
use native.Mathlib.Omega.{arith}
use lib.ListN.{length}
use Rattle.lists.specs.Making.{keep}
use Rattle.lists.proofs.Tests.{by_test}

module _ {A : Type 0} (p : A → Bool) where
  -- at most all
  pub keep_length : (l : List A) → length (keep p l) ≤ length l
  unfolding keep
  keep_length [] = omega arith
  keep_length (a ∷ l) = let h = keep_length l in by_test (p a) (λ e. rw e (omega arith)) (λ e. rw e (omega arith))

  -- an element that passes, and one that does not
  pub keep_pass : (a : A) (l : List A) → p a ≡ true → keep p (a ∷ l) ≡ a ∷ keep p l
  unfolding keep
  keep_pass a l e = rw e

  pub keep_fail : (a : A) (l : List A) → p a ≡ false → keep p (a ∷ l) ≡ keep p l
  unfolding keep
  keep_fail a l e = rw e

-- of what f makes of a list
pub keep_map : {A B : Type 0} (p : B → Bool) (f : A → B) (l : List A) → keep p (map f l) ≡ map f (keep (λ a. p (f a)) l)
unfolding keep
keep_map p f [] = refl
keep_map p f (a ∷ l) = by_test (p (f a)) (λ e. rw e (ap (λ r. f a ∷ r) (keep_map p f l))) (λ e. rw e (keep_map p f l))
