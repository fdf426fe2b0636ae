-- The bounds that 4 bytes say and the numbers that stand for them. Assumes nothing.
use Prim.Native.Nat.{ℕ, ◌<◌, ◌^◌}
use mathlib.Core.Bool.{Bool, true, false, cond}
use mathlib.Core.Path.{◌≡◌, refl, sym}
use native.Mathlib.Omega.{arith}
use lib.Dec.{eqb}
use borrow.Author.Tests.{eqb-true, eqb-false, ne_eqb}
use Rattle.value.specs.declared.Bound.{Bound}
use Rattle.value.specs.declared.Bound.TheVariants.{Within, Unbounded}
use Rattle.value.specs.Coded.{no_bound, bound_of, code_of, Sayable}

-- a number stands for its bound, which 4 bytes say
pub code_bound : (k : ℕ) → code_of (bound_of k) ≡ k
unfolding bound_of
code_bound k = go (eqb k no_bound) refl
  where
    go : (t : Bool) → eqb k no_bound ≡ t → code_of (cond t Unbounded (Within k)) ≡ k
    go true e = sym (eqb-true k no_bound e)
    go false e = refl

pub bound_sayable : (k : ℕ) → k < 2 ^ 32 → Sayable (bound_of k)
unfolding bound_of
bound_sayable k h = go (eqb k no_bound) refl
  where
    go : (t : Bool) → eqb k no_bound ≡ t → Sayable (cond t Unbounded (Within k))
    go true e = tt
    go false e = omega (arith, eqb-false k no_bound e)

-- a bound that 4 bytes say is that of its number, which fits
pub bound_code : (b : Bound) → Sayable b → bound_of (code_of b) ≡ b
unfolding bound_of
bound_code (Within k) h = rw (ne_eqb k no_bound (λ e. omega arith))
bound_code Unbounded h = refl

pub code_fits : (b : Bound) → Sayable b → code_of b < 2 ^ 32
code_fits (Within k) h = omega arith
code_fits Unbounded h = omega arith
