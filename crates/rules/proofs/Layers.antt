-- On a graph whose nodes have depths that no step raises and each cover edge lowers, the count is at most the number of nodes.
-- Assumes nothing.
use Prim.Native.Nat.{ℕ, zero, suc, ◌≤◌, ◌<◌}
use native.Mathlib.Nat.{le_refl}
use native.Mathlib.Omega.{arith}
use mathlib.Core.Path.{◌≡◌}
use mathlib.Core.Bool.{Bool, true, false, ◌&&◌, ◌||◌}
use lib.Dec.{leb, ltb}
use borrow.Author.Tests.{leb-true, le-leb, ltb-true, ltb-false, lt-ltb}
use Rattle.lists.specs.Lists.{up_to}
use Rattle.lists.proofs.Tests.{by_test, or_right, and_left, and_right}
use Rattle.lists.proofs.Lists.{how_many, how_many_le, how_many_more, how_many_some, up_to_length, ∈-up_to, up_to-∈}
use Rattle.value.specs.Value.{at_most, ◌≼◌}
use Rattle.value.proofs.Values.{≼-up}
use Rattle.rules.specs.Graph.{Graph, Closed}
use Rattle.rules.specs.Rounds.{rounds, Settled}
use Rattle.rules.specs.Count.{count}
use Rattle.rules.proofs.Order.{rounds_fall}
use Rattle.rules.proofs.Chain.{Change, Step, hyper_step, cover_step, chain}
use Rattle.rules.proofs.Count.{no_change_settled, count_before, first_le}
use Rattle.rules.specs.Depths.{Layered}

module _ (g : Graph) (d : ℕ → ℕ) where
  -- u comes no later than a change of v to k in round i: it is less deep, or as deep and at most k in that round
  passed : ℕ → ℕ → ℕ → ℕ → Bool
  passed i v k u = ltb (d u) (d v) || (leb (d u) (d v) && at_most (rounds g i u) k)

  -- how many do
  passes : ℕ → ℕ → ℕ → ℕ
  passes i v k = how_many (passed i v k) (up_to g.nodes)

  data Passed (i v k u : ℕ) : Type 0 where
    less : d u < d v → Passed i v k u
    low : d u ≤ d v → rounds g i u ≼ k → Passed i v k u

  passed_says : (i v k u : ℕ) → passed i v k u ≡ true → Passed i v k u
  unfolding passed
  passed_says i v k u e = by_test (ltb (d u) (d v)) (λ t. less (ltb-true (d u) (d v) t)) rest
    where
      rest : ltb (d u) (d v) ≡ false → Passed i v k u
      rest f =
          let q : (leb (d u) (d v) && at_most (rounds g i u) k) ≡ true = rw f at e in
          low (leb-true (d u) (d v) (and_left (leb (d u) (d v)) (at_most (rounds g i u) k) q))
          (record { test = and_right (leb (d u) (d v)) (at_most (rounds g i u) k) q })

  says_passed : {i v k u : ℕ} → Passed i v k u → passed i v k u ≡ true
  unfolding passed
  says_passed {v = v} {u = u} (less l) = rw (lt-ltb (d u) (d v) l)
  says_passed {i} {v} {k} {u} (low l p) = or_right (ltb (d u) (d v)) (leb (d u) (d v) && at_most (rounds g i u) k) (rw (le-leb (d u) (d v) l, p.test))

  module _ (closed : Closed g) (layered : Layered g d) where
    -- a target t that changed to j a round earlier and is less deep, or as deep with j at most k, is passed by fewer
    earlier : (i v k t j : ℕ) → v < g.nodes → d t ≤ d v → (d v ≤ d t → j ≤ k) → Change g (suc i) v k → passes (suc i) t j < passes (suc (suc i)) v k
    unfolding passes
    earlier i v k t j l h le f =
        how_many_more (passed (suc i) t j) (passed (suc (suc i)) v k) (up_to g.nodes)
        (λ u m e. says_passed (more u (∈-up_to g.nodes m) (passed_says (suc i) t j u e)))
        v (up_to-∈ g.nodes l)
        (by_test (passed (suc i) t j v) (λ e. absurd (new (passed_says (suc i) t j v e))) (λ e. e))
        (says_passed (low (le_refl (d v)) f.now))
      where
        more : (u : ℕ) → u < g.nodes → Passed (suc i) t j u → Passed (suc (suc i)) v k u
        more u k' (less a) = less (omega arith)
        more u k' (low a p) =
            by_test (ltb (d u) (d v)) (λ e. less (ltb-true (d u) (d v) e))
            (λ e.
            let b = ltb-false (d u) (d v) e in
            low (omega arith) (≼-up ((rounds_fall g closed (suc i) u k').carries p) (le (omega arith))))

        new : Passed (suc i) t j v → ⊥
        new (less a) = omega arith
        new (low a p) = f.not_before (≼-up p (le a))

    change_bound : (i v k : ℕ) → v < g.nodes → Change g i v k → suc i ≤ passes (suc i) v k
    unfolding passes
    change_bound zero v k l f = how_many_some (passed 1 v k) (up_to g.nodes) v (up_to-∈ g.nodes l) (says_passed (low (le_refl (d v)) f.now))
    change_bound (suc i) v k l f = go (chain g i v k f) (change_bound i)
      where
        go : Step g i v k → ((v k : ℕ) → v < g.nodes → Change g i v k → suc i ≤ passes (suc i) v k) → suc (suc i) ≤ passes (suc (suc i)) v k
        go (hyper_step h t j m n s w e) before =
            let q : d t.node ≤ d v = rw s at (layered.hyper m n) in
            omega (arith, before t.node j (closed.hyper m n) e, earlier i v k t.node j l q (λ _. omega arith) f)
        go (cover_step c j m s a b e) before =
            let q : d c.target < d v = rw s at (layered.cover m) in
            omega (arith, before c.target j (closed.cover m) e, earlier i v k c.target j l (omega arith) (λ z. absurd (omega arith)) f)

    passes_le : (i v k : ℕ) → passes i v k ≤ g.nodes
    unfolding passes
    passes_le i v k = rw up_to_length at (how_many_le (passed i v k) (up_to g.nodes))

    pub layered_settled : (i : ℕ) → g.nodes ≤ i → Settled g i
    layered_settled i h = no_change_settled g closed i λ v k l f. omega (arith, change_bound i v k l f, passes_le (suc i) v k)

    pub layered_count : count g ≤ g.nodes
    layered_count = first_le g (count g) g.nodes (count_before g) (layered_settled g.nodes (le_refl g.nodes))
