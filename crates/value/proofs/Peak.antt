-- An element of a list whose value is the greatest. Assumes nothing.
use mathlib.Core.Logic.{⊎_elim}
use mathlib.Core.List.Memᴰ
use mathlib.Core.List.{List, [], ◌∷◌}
use Rattle.lists.specs.Lists.{◌∈◌}
use Rattle.lists.proofs.Places.{first}
use Rattle.lists.proofs.Each.{Each, each_none, each_more}
use Rattle.value.specs.Value.{Value, ◌⊑◌}
use Rattle.value.proofs.Values.{⊑_refl, ⊑_trans, ⊑-total}

module _ {A : Type 0} (v : A → Value) where
  pub record Peak (l : List A) : Type 0 where
    pub top : A
    pub there : top ∈ l
    pub above : Each (λ a. v a ⊑ v top) l

  from : (c : A) (l : List A) → Peak (c ∷ l)
  from c [] = record { top = c; there = first; above = each_more ⊑_refl each_none }
  from c (d ∷ l) =
      let p = from d l in
      ⊎_elim (λ h. record { top = p.top; there = Memᴰ.tail p.there; above = each_more h p.above })
      (λ h. record { top = c; there = first; above = each_more ⊑_refl (record { at = λ a m. ⊑_trans (p.above.at a m) h }) })
      (⊑-total (v c) (v p.top))

  -- a list with an element has one
  pub peak : {a : A} {l : List A} → a ∈ l → Peak l
  peak {a = a} {l = []} m = elim m [ ]
  peak {l = c ∷ l} m = from c l
