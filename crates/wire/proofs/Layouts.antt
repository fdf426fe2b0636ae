-- The turns of a scan over records by position; a good reading gives the records that stand there. Assumes nothing.
use Rattle.std.proofs.Common.{◌≡◌, ℕ, zero, suc, ◌-◌, ◌<◌, List, ◌∷◌, length, refl, ap, ◌∙◌, subst, ap₂, not-suc-le-zero, sub-one}
use Rattle.wire.specs.Read.{Ok}
use Rattle.wire.specs.Reader.{Reader, read_all, past}
use Rattle.wire.specs.Layout.{Layout, items, end, Sound, none, more}
use Rattle.wire.proofs.Reading.{bind_good, good_same}

module _ {A : Type 0} (L : Layout A) where
  -- a loop's turn
  pub items_more : (k at : ℕ) → 0 < k → items L k at ≡ L.item at ∷ items L (k - 1) (L.next at)
  unfolding items
  items_more zero at h = absurd (not-suc-le-zero h)
  items_more (suc k) at h = simp sub-one

  pub end_more : (k at : ℕ) → 0 < k → end L k at ≡ end L (k - 1) (L.next at)
  unfolding end
  end_more zero at h = absurd (not-suc-le-zero h)
  end_more (suc k) at h = simp sub-one

  pub end_none : (k at : ℕ) → k ≡ 0 → end L k at ≡ at
  unfolding end
  end_none k at h = ap (λ (j : ℕ). end L j at) h

  -- one record more
  pub end_last : (k at : ℕ) → end L (suc k) at ≡ L.next (end L k at)
  unfolding end
  end_last zero at = refl
  end_last (suc k) at = end_last k (L.next at)

  pub sound_more : {k at : ℕ} → 0 < k → Sound L k at → L.Ok at × Sound L (k - 1) (L.next at)
  sound_more h none = absurd (not-suc-le-zero h)
  sound_more h (more ok s) = (ok, simp sub-one s)

  -- the layout gives what a reader reads
  pub record Reads {S : Type 0} (R : Reader S A) (st : S) (a : A) : Type 0 where
    pub item_is : a ≡ L.item (R.position st)
    pub next_is : R.position (R.next st a) ≡ L.next (R.position st)
    pub ok : L.Ok (R.position st)

  pub record ReadsAll {S : Type 0} (R : Reader S A) (k : ℕ) (st : S) (xs : List A) : Type 0 where
    pub items_are : xs ≡ items L k (R.position st)
    pub end_is : R.position (past R st xs) ≡ end L k (R.position st)
    pub sound : Sound L k (R.position st)

  -- P k st says what the state before k records is: each record is read there, and leaves what the others need
  pub reads_while : {S : Type 0} (R : Reader S A) (P : ℕ → S → Type 0)
      → ((k : ℕ) (st : S) (a : A) → P (suc k) st → R.read st ≡ Ok a → Reads R st a × P k (R.next st a))
      → (k : ℕ) (st : S) (xs : List A) → P k st → read_all R k st ≡ Ok xs → ReadsAll R k st xs
  unfolding read_all past items end
  reads_while R P each zero st xs p e = subst (ReadsAll R zero st) (good_same e) (record { items_are = refl; end_is = refl; sound = none })
  reads_while R P each (suc k) st xs p e =
      let a = bind_good _ _ e in
      let r = bind_good _ _ a.rest in
      let step = each k st a.value p a.first in
      let here = step.0 in
      let others = reads_while R P each k (R.next st a.value) r.value step.1 r.first in
      subst (ReadsAll R (suc k) st) (good_same r.rest)
      (record {
        items_are = ap₂ ◌∷◌ here.item_is (others.items_are ∙ ap (items L k) here.next_is);
        end_is = others.end_is ∙ ap (end L k) here.next_is;
        sound = more here.ok (subst (Sound L k) here.next_is others.sound);
      })

  -- where no state matters
  pub reads_all : {S : Type 0} (R : Reader S A) → ((st : S) (a : A) → R.read st ≡ Ok a → Reads R st a) → (k : ℕ) (st : S) (xs : List A) → read_all R k st ≡ Ok xs → ReadsAll R k st xs
  reads_all R each k st xs e = reads_while R (λ k st. Unit) (λ k st a p h. (each st a h, tt)) k st xs tt e

  -- k records are k
  pub items_length : (k at : ℕ) → length (items L k at) ≡ k
  unfolding items
  items_length zero at = refl
  items_length (suc k) at = ap suc (items_length k (L.next at))
