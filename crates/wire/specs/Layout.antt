-- Records that stand one after another, by position: what stands there, where the next starts, and what a check has shown of it.
use Rattle.std.specs.Prelude.{ℕ, zero, suc, List, [], ◌∷◌}

pub record Layout (A : Type 0) : Type 1 where
  pub item : ℕ → A
  pub next : ℕ → ℕ
  pub Ok : ℕ → Type 0

module _ {A : Type 0} (L : Layout A) where
  -- the k records from a position
  unfoldable pub items : ℕ → ℕ → List A
  items zero at = []
  items (suc k) at = L.item at ∷ items k (L.next at)

  -- where the next would start
  unfoldable pub end : ℕ → ℕ → ℕ
  end zero at = at
  end (suc k) at = end k (L.next at)

  -- each of them is as a check has shown
  pub data Sound : ℕ → ℕ → Type 0 where
    none : {at : ℕ} → Sound zero at
    more : {k at : ℕ} → L.Ok at → Sound k (L.next at) → Sound (suc k) at
