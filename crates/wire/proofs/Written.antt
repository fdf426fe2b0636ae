-- Records that are written one behind the other: joined, mapped, kept by a test, of each number of a span. Assumes nothing.
use Rattle.std.proofs.Common.{◌≡◌, ℕ, zero, suc, Bool, true, false, cond, List, [], ◌∷◌, ◌++◌, map, sym, refl, ap, ◌∙◌, append_assoc}
use Rattle.lists.specs.Making.{keep, span}
use Rattle.wire.specs.Write.{write_all}

pub write_all_append : {A : Type 0} (w : A → List ℕ) (xs ys : List A) → write_all w (xs ++ ys) ≡ write_all w xs ++ write_all w ys
unfolding write_all
write_all_append w [] ys = refl
write_all_append w (a ∷ xs) ys = ap (λ (s : List ℕ). w a ++ s) (write_all_append w xs ys) ∙ sym (append_assoc (w a) (write_all w xs) (write_all w ys))

pub write_all_map : {A B : Type 0} (w : B → List ℕ) (f : A → B) (l : List A) → write_all w (map f l) ≡ write_all (λ a. w (f a)) l
unfolding write_all
write_all_map w f [] = refl
write_all_map w f (a ∷ l) = ap (λ (s : List ℕ). w (f a) ++ s) (write_all_map w f l)

pub write_all_keep : {A : Type 0} (w : A → List ℕ) (p : A → Bool) (l : List A) → write_all w (keep p l) ≡ write_all (λ a. cond (p a) (w a) []) l
unfolding write_all keep
write_all_keep w p [] = refl
write_all_keep w p (a ∷ l) = go (p a) (write_all_keep w p l)
  where
    go : (t : Bool) → write_all w (keep p l) ≡ write_all (λ a. cond (p a) (w a) []) l
        → write_all w (cond t (a ∷ keep p l) (keep p l)) ≡ cond t (w a) [] ++ write_all (λ a. cond (p a) (w a) []) l
    go true e = ap (λ (s : List ℕ). w a ++ s) e
    go false e = e

-- records of each number, written
pub span_written : {B : Type 0} (w : B → List ℕ) (f : ℕ → List B) (a n : ℕ) → write_all w (span f a n) ≡ span (λ c. write_all w (f c)) a n
unfolding span write_all
span_written w f a zero = refl
span_written w f a (suc n) = write_all_append w (f a) (span f (suc a) n) ∙ ap (λ (s : List ℕ). write_all w (f a) ++ s) (span_written w f (suc a) n)
