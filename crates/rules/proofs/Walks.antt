-- Walks: one behind another; depths that no step raises leave no cycle through a cover edge. Assumes nothing.
use Prim.Native.Nat.{ℕ, ◌≤◌}
use native.Mathlib.Nat.{le_refl}
use native.Mathlib.Omega.{arith}
use Rattle.lists.specs.Lists.{◌∈◌}
use Rattle.rules.specs.Graph.{Graph, Cover}
use Rattle.rules.specs.Walks.{Step, along, over, Walk, stay, onward, CoverCycle}
use Rattle.rules.specs.Depths.{Layered}

-- a walk through a cover edge
pub record Through (g : Graph) (u w : ℕ) : Type 0 where
  pub edge : Cover
  pub there : edge ∈ g.covers
  pub before : Walk g u edge.source
  pub after : Walk g edge.target w

module _ {g : Graph} where
  join : {u v w : ℕ} → Walk g u v → Walk g v w → Walk g u w
  join a stay = a
  join a (onward b s) = onward (join a b) s

  pub through_more : {u v w : ℕ} → Through g u v → Step g v w → Through g u w
  through_more z s = record { edge = z.edge; there = z.there; before = z.before; after = onward z.after s }

  -- such a walk back to where it began is a cycle
  pub through_back : {v : ℕ} → Through g v v → CoverCycle g
  through_back z = record { edge = z.edge; there = z.there; back = join z.after z.before }

module _ {g : Graph} {d : ℕ → ℕ} (layered : Layered g d) where
  step_falls : {u v : ℕ} → Step g u v → d v ≤ d u
  step_falls (along h t m n p q) = let l = layered.hyper m n in rw (p, q) at l
  step_falls (over c m p q) = let l = layered.cover m in let k : d c.target ≤ d c.source = omega arith in rw (p, q) at k

  walk_falls : {u v : ℕ} → Walk g u v → d v ≤ d u
  walk_falls {u} stay = le_refl (d u)
  walk_falls (onward a s) = let h = walk_falls a in let k = step_falls s in omega arith

  pub layered_free : ¬ CoverCycle g
  layered_free z = let h = walk_falls z.back in let l = layered.cover z.there in omega arith
