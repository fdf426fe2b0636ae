-- What holds of each element: of none, of one more, of a list that is made. Assumes nothing.
use mathlib.Core.List.Memᴰ
use mathlib.Core.List.{List, [], ◌∷◌, map}
use Rattle.lists.specs.Lists.{◌∈◌}

pub record Each {A : Type 0} (P : A → Type 0) (l : List A) : Type 0 where
  pub at : (a : A) → a ∈ l → P a

module _ {A : Type 0} {P : A → Type 0} where
  pub each_none : Each P []
  each_none = record { at = λ a m. elim m [ ] }

  pub each_more : {c : A} {l : List A} → P c → Each P l → Each P (c ∷ l)
  each_more {c} {l} p q = record { at = go }
    where
      go : (a : A) → a ∈ (c ∷ l) → P a
      go a (Memᴰ.head e) = rw e p
      go a (Memᴰ.tail m) = q.at a m

  pub each_map : {B : Type 0} (f : B → A) (l : List B) → ((b : B) → b ∈ l → P (f b)) → Each P (map f l)
  each_map f l p = record { at = λ a m. let (b, n, e) = Memᴰ.of_map f l m in rw (← e) (p b n) }
