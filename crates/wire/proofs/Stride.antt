-- Records of one width by position: where they end, one by its index, the first so many and the rest, the turns of a loop that counts up. Assumes nothing.
use Rattle.std.proofs.Common.{◌≡◌, ℕ, zero, suc, ◌+◌, ◌-◌, ◌*◌, ◌<◌, ◌≤◌, ◌∷◌, ◌++◌, get_or, take, drop, ap, ◌∙◌, not-suc-le-zero, suc-add, zero-add, arith, take_at, drop_at}
use mathlib.Core.Option.{some}
use lib.ListN.{get_elem?}
use Rattle.lists.proofs.Places.{place_get_d}
use Rattle.wire.specs.Layout.{Layout, items, end}
use Rattle.wire.proofs.Layouts.{items_more, items_length}

-- each record is w long
module _ {A : Type 0} (L : Layout A) (w : ℕ) (wide : (at : ℕ) → L.next at ≡ at + w) where
  pub end_wide : (k at : ℕ) → end L k at ≡ at + k * w
  unfolding end
  end_wide zero at = omega arith
  end_wide (suc k) at =
      let there : at + w + k * w ≡ at + suc k * w = omega arith in
      ap (end L k) (wide at) ∙ end_wide k (at + w) ∙ there

  pub items_append : (i k at : ℕ) → items L (i + k) at ≡ items L i at ++ items L k (at + i * w)
  unfolding items
  items_append zero k at = let here : at + 0 * w ≡ at = omega arith in rw (zero-add, here)
  items_append (suc i) k at =
      let there : at + w + i * w ≡ at + suc i * w = omega arith in
      rw (suc-add, wide, items_append i k (at + w), there)

  pub items_get : (k at i : ℕ) → i < k → get_elem? (items L k at) i ≡ some (L.item (at + i * w))
  unfolding items
  items_get zero at i h = absurd (not-suc-le-zero h)
  items_get (suc k) at zero h = let here : at + 0 * w ≡ at = omega arith in rw here
  items_get (suc k) at (suc i) h =
      let there : at + w + i * w ≡ at + suc i * w = omega arith in
      rw (wide, items_get k (at + w) i (omega arith), there)

  pub items_at : (d : A) (k at i : ℕ) → i < k → get_or (items L k at) i d ≡ L.item (at + i * w)
  items_at d k at i h = place_get_d (items L k at) i d (items_get k at i h)

  -- the first so many, and the rest
  pub items_take : (i k at : ℕ) → i ≤ k → take i (items L k at) ≡ items L i at
  items_take i k at h =
      let parts : k ≡ i + (k - i) = omega arith in
      ap (λ (j : ℕ). take i (items L j at)) parts ∙ ap (take i) (items_append i (k - i) at) ∙ take_at (items L i at) _ i (items_length L i at)

  pub items_drop : (i k at : ℕ) → i ≤ k → drop i (items L k at) ≡ items L (k - i) (at + i * w)
  items_drop i k at h =
      let parts : k ≡ i + (k - i) = omega arith in
      ap (λ (j : ℕ). drop i (items L j at)) parts ∙ ap (drop i) (items_append i (k - i) at) ∙ drop_at (items L i at) _ i (items_length L i at)

  -- a loop that counts up: the one at its place, and those behind it
  pub items_left : (base k i : ℕ) → i < k → items L (k - i) (base + i * w) ≡ L.item (base + i * w) ∷ items L (k - (i + 1)) (base + (i + 1) * w)
  items_left base k i h =
      let left : k - i - 1 ≡ k - (i + 1) = omega arith in
      let there : base + i * w + w ≡ base + (i + 1) * w = omega arith in
      items_more L (k - i) (base + i * w) (omega arith) ∙ rw (wide, left, there)
