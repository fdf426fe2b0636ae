-- The bits in which numbers differ: there are none exactly where the numbers are the same. Assumes nothing.
use Prim.Native.Nat.{ℕ}
use mathlib.Core.Path.{◌≡◌}
use native.Mathlib.Omega.{arith}
use lib.Bits.{bit_or, bit_xor, and_le_l, and_le_r, or_add_and, xor_add_and, xor_self}

module _ (a b c : ℕ) where
  -- what was gathered before, and two numbers more
  pub still_same : bit_or a (bit_xor b c) ≡ 0 → a ≡ 0
  still_same e = omega (arith, e, or_add_and a (bit_xor b c), and_le_r a (bit_xor b c))

  pub both_same : bit_or a (bit_xor b c) ≡ 0 → b ≡ c
  both_same e =
      let none : bit_xor b c ≡ 0 = omega (arith, e, or_add_and a (bit_xor b c), and_le_l a (bit_xor b c)) in
      omega (arith, none, xor_add_and b c, and_le_l b c, and_le_r b c)

  pub none_apart : a ≡ 0 → b ≡ c → bit_or a (bit_xor b c) ≡ 0
  none_apart e same = rw (e, same) (xor_self c)
