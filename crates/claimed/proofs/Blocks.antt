-- A block of indices behind those before it. Assumes nothing.
use Rattle.std.proofs.Common.{ℕ, ◌<◌, ◌≤◌, arith}
use native.Mathlib.Decide.{dec_lt}

-- what holds below one index, and from there to before another
pub below_block : (P : ℕ → Type 0) (i to : ℕ) → ((k : ℕ) → k < i → P k) → ((k : ℕ) → k < to → i ≤ k → P k) → (k : ℕ) → k < to → P k
below_block P i to below more k l = go (dec_lt k i)
  where
    go : Dec (k < i) → P k
    go (yes m) = below k m
    go (no m) = more k l (omega arith)
