-- Numbers that rise between two ends, one list behind another. Assumes nothing.
use Prim.Native.Nat.{ℕ, ◌≤◌}
use native.Mathlib.Nat.{le_refl, le_trans}
use mathlib.Core.List.{List, [], ◌∷◌, ◌++◌}
use Rattle.lists.specs.Order.{RisingFrom}

-- none is below the one before it, the first is not below b, and none is above c
pub data Between (c : ℕ) : ℕ → List ℕ → Type 0 where
  done : {b : ℕ} → b ≤ c → Between c b []
  next : {b v : ℕ} {l : List ℕ} → b ≤ v → Between c v l → Between c b (v ∷ l)

-- from a lower end, to a higher one
wider : {c c' b b' : ℕ} {l : List ℕ} → b' ≤ b → Between c b l → c ≤ c' → Between c' b' l
wider p (done h) q = done (le_trans p (le_trans h q))
wider p (next {v = v} h m) q = next (le_trans p h) (wider (le_refl v) m q)

pub between_append : {c c' d d' b b' : ℕ} {l k : List ℕ} → b' ≤ b → Between c b l → c ≤ c' → Between d c' k → d ≤ d' → Between d' b' (l ++ k)
between_append p (done h) q n r = wider (le_trans p (le_trans h q)) n r
between_append p (next {v = v} h m) q n r = next (le_trans p h) (between_append (le_refl v) m q n r)

pub between_rising : {c b b' : ℕ} {l : List ℕ} → b' ≤ b → Between c b l → RisingFrom b' l
unfolding RisingFrom
between_rising p (done h) = tt
between_rising p (next {v = v} h m) = (le_trans p h, between_rising (le_refl v) m)
