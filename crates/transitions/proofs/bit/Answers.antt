-- `transitions::bit` meets its contract: a label of 32 bits has none above, and below a shift brings it to the front.
use Rattle.std.proofs.Common.{◌≡◌, ℕ, ◌/◌, ◌%◌, ◌^◌, ◌<◌, ◌≤◌, false, eqb, sym, arith}
use native.Mathlib.Nat.{div-eq_of_lt, pow-le-pow_right}
use Rattle.transitions.proofs.bit.Goals as goal

-- a number of 32 bits has no bit 32, nor one above
no_bit : (label i : ℕ) → label < 2 ^ 32 → 32 ≤ i → eqb (label / 2 ^ i % 2) 1 ≡ false
no_bit label i small high =
    let most = pow-le-pow_right {n = 2} (omega arith) {i = 32} {j = i} high in
    let none : label / 2 ^ i ≡ 0 = div-eq_of_lt (omega arith) in
    rw none

pub returns-then-i-ge32 : goal.returns-then-i-ge32
returns-then-i-ge32 c = sym (no_bit c.args.label c.args.i c.ranges.label.fits c.if-i-ge32.true)
