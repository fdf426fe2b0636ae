-- What the limits say, one by one. Assumes nothing.
use Prim.Native.Nat.{ℕ, ◌≤◌}
use mathlib.Core.Bool.{true}
use mathlib.Core.Path.{◌≡◌}
use lib.Dec.{leb}
use native.Mathlib.Omega.{arith}
use borrow.Author.Tests.{leb-true, le-leb}
use Rattle.lists.proofs.Tests.{and_left, and_right}
use Rattle.sizing.specs.declared.Size as size
use Rattle.sizing.specs.Size.{in_limits}

pub counts_within : (nodes : ℕ) (z : size.Size) → in_limits nodes z ≡ true → (nodes ≤ 4096) × (z.hypers ≤ 65535) × (z.targets ≤ 262144) × (z.most ≤ 65535)
unfolding in_limits
counts_within nodes z e =
    let rest = and_right (leb nodes 4096) _ e in
    let edges = and_right (leb z.hypers 65535) _ rest in
    (leb-true _ _ (and_left _ _ e), leb-true _ _ (and_left _ _ rest), leb-true _ _ (and_left _ _ edges), leb-true _ _ (and_right (leb z.targets 262144) _ edges))

-- with fewer nodes they are kept too
pub fewer_within : (less nodes : ℕ) (z : size.Size) → less ≤ nodes → in_limits nodes z ≡ true → in_limits less z ≡ true
unfolding in_limits
fewer_within less nodes z few e =
    let h = counts_within nodes z e in
    rw (le-leb less 4096 (omega (arith, few, h.0)), le-leb z.hypers 65535 h.1, le-leb z.targets 262144 h.2, le-leb z.most 65535 h.3)
