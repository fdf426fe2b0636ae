-- Records by their number: where each stands, a part of them that starts at one of them, and sources that never fall. Assumes nothing.
use Rattle.std.proofs.Common.{◌≡◌, ℕ, zero, suc, ◌+◌, ◌-◌, ◌<◌, ◌≤◌, map, sym, refl, ap, ◌∙◌, subst, le_trans, not-suc-le-zero, suc-add, zero-add, arith}
use mathlib.Core.List.Memᴰ
use native.Mathlib.Decide.{dec_lt}
use Rattle.lists.specs.Lists.{◌∈◌}
use Rattle.lists.specs.Order.{RisingFrom}
use Rattle.wire.specs.Layout.{Layout, items, end, Sound, none, more}

module _ {A : Type 0} (L : Layout A) where
  pub end_add : (i k at : ℕ) → end L (i + k) at ≡ end L k (end L i at)
  unfolding end
  end_add zero k at = rw zero-add
  end_add (suc i) k at = rw suc-add (end_add i k (L.next at))

  pub end_next : (i at : ℕ) → end L (i + 1) at ≡ L.next (end L i at)
  unfolding end
  end_next i at = end_add i 1 at

  -- a record has a number, and each number below has a record
  pub ∈-items : {a : A} (k at : ℕ) → a ∈ items L k at → (i : ℕ) × (i < k) × (a ≡ L.item (end L i at))
  unfolding items end
  ∈-items zero at m = absurd (Memᴰ.not-nil m)
  ∈-items (suc k) at (Memᴰ.head e) = (0, omega arith, e)
  ∈-items (suc k) at (Memᴰ.tail m) = let r = ∈-items k (L.next at) m in (suc r.0, omega (arith, r.1), r.2)

  pub items-∈ : (k at i : ℕ) → i < k → L.item (end L i at) ∈ items L k at
  unfolding items end
  items-∈ zero at i h = absurd (not-suc-le-zero h)
  items-∈ (suc k) at zero h = Memᴰ.head refl
  items-∈ (suc k) at (suc i) h = Memᴰ.tail (items-∈ k (L.next at) i (omega arith))

  -- a part of sound records is sound
  sound_first : {h at : ℕ} (k : ℕ) → k ≤ h → Sound L h at → Sound L k at
  sound_first zero l s = none
  sound_first (suc k) l none = absurd (not-suc-le-zero l)
  sound_first (suc k) l (more {k = h'} ok s) = more ok (sound_first {h = h'} k (omega arith) s)

  sound_rest : {h at : ℕ} (i k : ℕ) → i + k ≤ h → Sound L h at → Sound L k (end L i at)
  unfolding end
  sound_rest zero k l s = sound_first k (omega arith) s
  sound_rest (suc i) k l none = absurd (omega arith)
  sound_rest (suc i) k l (more {k = h'} ok s) = sound_rest {h = h'} i k (omega arith) s

  pub sound_at : {h at : ℕ} (i : ℕ) → i < h → Sound L h at → L.Ok (end L i at)
  sound_at {h} {at} i l s = go (sound_rest i 1 (omega arith) s)
    where
      go : Sound L 1 (end L i at) → L.Ok (end L i at)
      go (more ok r) = ok

  -- those from number a to before number z, which stand at p if there are any
  module _ (h at a z p : ℕ) (within : z ≤ h) (there : a < z → p ≡ end L a at) where
    pub part_sound : Sound L h at → Sound L (z - a) p
    part_sound s = go (dec_lt a z)
      where
        go : Dec (a < z) → Sound L (z - a) p
        go (yes l) = subst (Sound L (z - a)) (sym (there l)) (sound_rest a (z - a) (omega arith) s)
        go (no l) = let e : z - a ≡ 0 = omega arith in rw e none

    -- the number of each
    pub part_number : {x : A} → x ∈ items L (z - a) p → (j : ℕ) × (a ≤ j) × (j < z) × (x ≡ L.item (end L j at))
    part_number {x} m =
        let r = ∈-items (z - a) p m in
        let l : a < z = omega (arith, r.1) in
        (a + r.0, omega arith, omega (arith, r.1), r.2 ∙ ap (λ (q : ℕ). L.item (end L r.0 q)) (there l) ∙ ap L.item (sym (end_add a r.0 at)))

    -- where they end
    pub part_end : a < z → end L (z - a) p ≡ end L z at
    part_end l = let whole : a + (z - a) ≡ z = omega arith in ap (end L (z - a)) (there l) ∙ sym (end_add a (z - a) at) ∙ ap (λ (k : ℕ). end L k at) whole

    pub part_of_lem : {x : A} → x ∈ items L (z - a) p → x ∈ items L h at
    part_of_lem {x} m = let r = part_number m in subst (λ (y : A). y ∈ items L h at) (sym r.3) (items-∈ h at r.0 (omega (arith, r.2)))

    pub part_has : (i : ℕ) → a ≤ i → i < z → L.item (end L i at) ∈ items L (z - a) p
    part_has i low high =
        let l : a < z = omega arith in
        let whole : a + (i - a) ≡ i = omega arith in
        let is : end L (i - a) p ≡ end L i at = ap (end L (i - a)) (there l) ∙ sym (end_add a (i - a) at) ∙ ap (λ (k : ℕ). end L k at) whole in
        subst (λ (q : ℕ). L.item q ∈ items L (z - a) p) is (items-∈ (z - a) p (i - a) (omega arith))

-- sources that rise along the list rise by number
module _ {A : Type 0} (L : Layout A) (source : A → ℕ) where
  rising_at : (b k at i : ℕ) → RisingFrom b (map source (items L k at)) → i < k → b ≤ source (L.item (end L i at))
  unfolding items end RisingFrom
  rising_at b zero at i r l = absurd (not-suc-le-zero l)
  rising_at b (suc k) at zero r l = r.0
  rising_at b (suc k) at (suc i) r l = le_trans r.0 (rising_at (source (L.item at)) k (L.next at) i r.1 (omega arith))

  pub rising_climbs : (b k at i j : ℕ) → RisingFrom b (map source (items L k at)) → i ≤ j → j < k → source (L.item (end L i at)) ≤ source (L.item (end L j at))
  unfolding items end RisingFrom
  rising_climbs b zero at i j r l h = absurd (not-suc-le-zero h)
  rising_climbs b (suc k) at zero zero r l h = omega arith
  rising_climbs b (suc k) at zero (suc j) r l h = rising_at (source (L.item at)) k (L.next at) j r.1 (omega arith)
  rising_climbs b (suc k) at (suc i) zero r l h = absurd (not-suc-le-zero l)
  rising_climbs b (suc k) at (suc i) (suc j) r l h = rising_climbs (source (L.item at)) k (L.next at) i j r.1 (omega arith) (omega arith)
