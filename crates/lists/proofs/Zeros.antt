-- A room that is all 0 at first, as marks and labels are. Assumes nothing.
use Prim.Native.Nat.{ℕ, zero, suc}
use mathlib.Core.Path.{◌≡◌, refl}
use lib.ListN.{get_or, replicate}

pub zeros_at : (k v : ℕ) → get_or {A = ℕ} (replicate k 0) v 0 ≡ 0
zeros_at zero v = refl
zeros_at (suc k) zero = refl
zeros_at (suc k) (suc v) = zeros_at k v
