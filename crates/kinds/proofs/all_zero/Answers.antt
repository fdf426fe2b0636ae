-- `kinds::all_zero` meets its contract: no bit is gathered exactly where each number has none.
use Prim.Native.Nat.{ℕ, ◌<◌}
use mathlib.Core.Bool.{Bool, true, false, ◌&&◌}
use mathlib.Core.Path.{◌≡◌, refl, ◌∙◌}
use lib.Bits.{bit_or, and_le_l, and_le_r, or_add_and}
use lib.Dec.{eqb}
use native.Mathlib.Decide.{dec_lt}
use native.Mathlib.Omega.{arith}
use borrow.Author.Tests.{eq-eqb, ne_eqb}
use Rattle.kinds.proofs.all_zero.Goals as goal

-- two numbers have no bit together exactly where neither has one
or_zero : (a b : ℕ) → eqb (bit_or a b) 0 ≡ (eqb a 0 && eqb b 0)
or_zero a b = go (dec_lt 0 a) (dec_lt 0 b)
  where
    go : Dec (0 < a) → Dec (0 < b) → eqb (bit_or a b) 0 ≡ (eqb a 0 && eqb b 0)
    go (yes l) _ = rw (ne_eqb a 0 (λ e. absurd (omega arith)), ne_eqb (bit_or a b) 0 (λ e. absurd (omega (arith, e, or_add_and a b, and_le_r a b)))) refl
    go (no l) (yes m) =
        rw (eq-eqb a 0 (omega arith), ne_eqb b 0 (λ e. absurd (omega arith)), ne_eqb (bit_or a b) 0 (λ e. absurd (omega (arith, e, or_add_and a b, and_le_l a b)))) refl
    go (no l) (no m) = rw (eq-eqb a 0 (omega arith), eq-eqb b 0 (omega arith), eq-eqb (bit_or a b) 0 (omega (arith, or_add_and a b))) refl

-- four tests, two and two, are one after another
in_turn : (a b c : Bool) → ((a && b) && c) ≡ (a && (b && c))
in_turn true b c = refl
in_turn false b c = refl

gathered : (a b c d : ℕ) → eqb (bit_or (bit_or a b) (bit_or c d)) 0 ≡ (eqb a 0 && (eqb b 0 && (eqb c 0 && eqb d 0)))
gathered a b c d = or_zero (bit_or a b) (bit_or c d) ∙ rw (or_zero a b, or_zero c d) (in_turn (eqb a 0) (eqb b 0) (eqb c 0 && eqb d 0))

pub returns : goal.returns
returns c =
    let f = c.args.fields in
    gathered f.left f.right f.zero f.bound
