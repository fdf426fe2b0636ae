-- The action and the successor of a transition, read as one number of 4 bytes, the action above. Assumes nothing.
use Rattle.std.proofs.Common.{◌≡◌, ℕ, ◌+◌, ◌-◌, ◌*◌, ◌%◌, ◌^◌, ◌<◌, ◌≤◌, Bool, false, ◌&&◌, leb, List, refl, ap, arith, le-leb}
use native.Mathlib.Decide.{dec_lt}
use borrow.Author.Tests.{lt-leb}
use Rattle.wire.specs.Bytes.{number, Bytes}
use Rattle.wire.proofs.Bytes.{number_below, number_split}
use Rattle.model.specs.Format.{action_at, to_at}

-- the successor is what the action leaves, where it fits 2 bytes
pub successor_of : (m : List ℕ) (at both : ℕ) → both ≡ number 4 m (at + action_at) → number 2 m (at + to_at) < 65536 → both % 65536 ≡ number 2 m (at + to_at)
successor_of m at both is low =
    let behind : at + action_at + 2 ≡ at + to_at = omega arith in
    let last : number 2 m (at + action_at + 2) ≡ number 2 m (at + to_at) = ap (number 2 m) behind in
    omega (arith, is, last, number_split 2 2 m (at + action_at))

module _ (m : List ℕ) (bytes : Bytes m) (at both : ℕ) (is : both ≡ number 4 m (at + action_at)) where
  abbrev action : ℕ
  action = number 2 m (at + action_at)

  abbrev to : ℕ
  to = number 2 m (at + to_at)

  sides : both ≡ action * 65536 + to
  sides =
      let behind : at + action_at + 2 ≡ at + to_at = omega arith in
      let last : number 2 m (at + action_at + 2) ≡ to = ap (number 2 m) behind in
      omega (arith, is, last, number_split 2 2 m (at + action_at))

  low_side : to < 65536
  low_side = omega (arith, number_below 2 m (at + to_at) bytes)

  -- every action is in a range that begins at 0 and ends at the greatest or above it
  pub any_action : (low high : ℕ) (x : Bool) → low ≡ 0 → 65535 ≤ high → (leb low action && (leb action high && x)) ≡ x
  any_action low high x first last =
      let small : action < 65536 = omega (arith, number_below 2 m (at + action_at) bytes) in
      rw (le-leb low action (omega arith), le-leb action high (omega arith)) refl

  -- less the least number of a range of actions, modulo 2^64, it is at most the range's width just where the action is in the range
  module _ (low high above : ℕ) (range : low ≤ high) (fits : high < 2 ^ 32) (wraps : (above + low * 65536) % 2 ^ 64 ≡ both) (x : Bool) where
    pub in_range : above ≤ (high - low) * 65536 + 65535 → (leb low action && (leb action high && x)) ≡ x
    in_range h = rw (le-leb low action (omega (arith, sides, low_side)), le-leb action high (omega (arith, sides, low_side))) refl

    pub out_of_range : above < 2 ^ 64 → (high - low) * 65536 + 65535 < above → (leb low action && (leb action high && x)) ≡ false
    out_of_range small h = go (dec_lt action low)
      where
        go : Dec (action < low) → (leb low action && (leb action high && x)) ≡ false
        go (yes l) = rw (lt-leb low action l) refl
        go (no l) = rw (le-leb low action (omega arith), lt-leb action high (omega (arith, sides, low_side))) refl
