-- The count of a graph exists, is the first unchanged round, and is at most nodes times one more than the cover edges.
-- Assumes nothing.
use mathlib.Core.Path.{◌≡◌}
use mathlib.Core.Bool.{true, false}
use Prim.Native.Nat.{ℕ, zero, suc, ◌+◌, ◌*◌, ◌≤◌, ◌<◌}
use native.Mathlib.Nat.{le_antisymm, mul-le-mul_left, mul-suc, mul-add, mul-one}
use native.Mathlib.Omega.{arith}
use lib.ListN.{length}
use lib.Dec.{leb}
use borrow.Author.Tests.{leb-true, leb-false}
use Rattle.lists.proofs.Tests.{by_test, clash}
use Rattle.lists.specs.Lists.{◌∈◌, up_to}
use Rattle.value.specs.Value.{at_most, same, ◌≼◌}
use Rattle.rules.specs.Graph.{Graph, Cover, Closed}
use Rattle.rules.specs.Rounds.{cover_holds, rounds, Settled, Largest}
use Rattle.rules.specs.Count.{unchanged, search_end, count, First}
use Rattle.value.proofs.Values.{≼-up, not-≼, same_eq, eq_same, falls, meets_mono}
use Rattle.lists.proofs.Lists.{all_true, true_all, first_from_le, first_from_before, first_from_passes}
use Rattle.lists.proofs.Lists.{how_many, how_many_le, how_many_mono, how_many_more, how_many_some, up_to_length, ∈-up_to, up_to-∈}
use Rattle.rules.proofs.Order.{rounds_fall, settled_largest}
use Rattle.rules.proofs.Chain.{Change, Step, hyper_step, cover_step, chain}

-- how many cover edges hold under round i
pub active : Graph → ℕ → ℕ
active g i = how_many (cover_holds (rounds g i)) g.covers

-- how many nodes are at most k in round i
pub low : Graph → ℕ → ℕ → ℕ
low g i k = how_many (λ v. at_most (rounds g i v) k) (up_to g.nodes)

module _ (g : Graph) (closed : Closed g) where
  active_mono : (i : ℕ) → active g i ≤ active g (suc i)
  unfolding active
  active_mono i =
      how_many_mono (cover_holds (rounds g i)) (cover_holds (rounds g (suc i))) g.covers
      (λ c m e. meets_mono c.bound (rounds_fall g closed i c.target (closed.cover m)) e)

  active_more : (i : ℕ) (c : Cover) → c ∈ g.covers → cover_holds (rounds g i) c ≡ false → cover_holds (rounds g (suc i)) c ≡ true → active g i < active g (suc i)
  unfolding active
  active_more i =
      how_many_more (cover_holds (rounds g i)) (cover_holds (rounds g (suc i))) g.covers
      (λ c m e. meets_mono c.bound (rounds_fall g closed i c.target (closed.cover m)) e)

  low_le : (i k : ℕ) → low g i k ≤ g.nodes
  unfolding low
  low_le i k = rw up_to_length at (how_many_le (λ v. at_most (rounds g i v) k) (up_to g.nodes))

  low_some : (i k v : ℕ) → v < g.nodes → rounds g i v ≼ k → 0 < low g i k
  unfolding low
  low_some i k v l p = how_many_some (λ v. at_most (rounds g i v) k) (up_to g.nodes) v (up_to-∈ g.nodes l) p.test

  -- a node that falls to k joins those that are at most k; those that were at most a smaller j stay
  low_more : (i j k v : ℕ) → v < g.nodes → j ≤ k → Change g i v k → low g i j < low g (suc i) k
  unfolding low
  low_more i j k v l h f =
      how_many_more (λ v. at_most (rounds g i v) j) (λ v. at_most (rounds g (suc i) v) k) (up_to g.nodes)
      (λ u m e. (≼-up ((rounds_fall g closed i u (∈-up_to g.nodes m)).carries (record { test = e })) h).test)
      v (up_to-∈ g.nodes l) (not-≼ (λ p. f.not_before (≼-up p h))) f.now.test

  -- THE BOUND: at each change the rounds so far are at most the nodes for each active cover edge, and the nodes that are as low
  pub change_bound : (i v k : ℕ) → v < g.nodes → Change g i v k → suc i ≤ g.nodes * active g i + low g (suc i) k
  change_bound zero v k l f = let h = low_some 1 k v l f.now in omega arith
  change_bound (suc i) v k l f = go (chain g i v k f) (change_bound i)
    where
      go : Step g i v k → ((v k : ℕ) → v < g.nodes → Change g i v k → suc i ≤ g.nodes * active g i + low g (suc i) k)
          → suc (suc i) ≤ g.nodes * active g (suc i) + low g (suc (suc i)) k
      go (hyper_step h t j m n s w e) before =
          omega (arith, before t.node j (closed.hyper m n) e, low_more (suc i) j k v l (omega arith) f, mul-le-mul_left g.nodes (active_mono i))
      go (cover_step c j m s a b e) before =
          let more : g.nodes * active g i + g.nodes ≤ g.nodes * active g (suc i) = rw mul-suc at (mul-le-mul_left g.nodes (active_more i c m a b)) in
          omega (arith, before c.target j (closed.cover m) e, low_le (suc i) j, low_some (suc (suc i)) k v l f.now)

  -- a round after which no node falls is settled
  pub no_change_settled : (i : ℕ) → ((v k : ℕ) → v < g.nodes → ¬ Change g i v k) → Settled g i
  no_change_settled i none v l =
      by_test (same (rounds g (suc i) v) (rounds g i v)) (same_eq (rounds g (suc i) v) (rounds g i v))
      (λ e. let r = falls (rounds g (suc i) v) (rounds g i v) (rounds_fall g closed i v l) e in absurd (none v r.0 l r.1))

  -- so no round from n (c + 1) on changes anything
  pub settled_enough : (i : ℕ) → g.nodes * (length g.covers + 1) ≤ i → Settled g i
  unfolding active
  settled_enough i h = no_change_settled i λ v k l f.
      let c : g.nodes * active g i ≤ g.nodes * length g.covers = mul-le-mul_left g.nodes (how_many_le (cover_holds (rounds g i)) g.covers) in
      let u : g.nodes * (length g.covers + 1) ≡ g.nodes * length g.covers + g.nodes = simp (mul-add, mul-one) in
      omega (arith, change_bound i v k l f, low_le (suc i) k)

-- the test of a round and what it says
pub unchanged_settled : (g : Graph) (i : ℕ) → unchanged g i ≡ true → Settled g i
unfolding unchanged
unchanged_settled g i e v l =
    same_eq (rounds g (suc i) v) (rounds g i v) (all_true (λ v. same (rounds g (suc i) v) (rounds g i v)) (up_to g.nodes) e v (up_to-∈ g.nodes l))

pub settled_unchanged : (g : Graph) (i : ℕ) → Settled g i → unchanged g i ≡ true
unfolding unchanged
settled_unchanged g i s = true_all (λ v. same (rounds g (suc i) v) (rounds g i v)) (up_to g.nodes) (λ v m. eq_same (s v (∈-up_to g.nodes m)))

-- the count is the first round that equals the next one, there is one such only, and it is at most nodes times one more than cover edges
pub count_le : (g : Graph) → count g ≤ g.nodes * (length g.covers + 1)
unfolding count
count_le g = let h = first_from_le (unchanged g) (search_end g) 0 in omega arith

pub count_before : (g : Graph) (j : ℕ) → j < count g → ¬ Settled g j
unfolding count
count_before g j l s = clash (settled_unchanged g j s) (first_from_before (unchanged g) (search_end g) 0 j (omega arith) l)

pub count_first : (g : Graph) → Closed g → First g (count g)
unfolding count
count_first g closed = record {
  settled = unchanged_settled g (count g)
      (first_from_passes (unchanged g) (search_end g) 0 (settled_unchanged g (0 + search_end g) (settled_enough g closed (0 + search_end g) (omega arith))));
  before = count_before g;
}

-- a number that no settled round is below is at most one that is settled
pub first_le : (g : Graph) (i j : ℕ) → ((k : ℕ) → k < i → ¬ Settled g k) → Settled g j → i ≤ j
first_le g i j f s = by_test (leb i j) (leb-true i j) (λ e. absurd (f j (leb-false i j e) s))

pub first_unique : (g : Graph) (i j : ℕ) → First g i → First g j → i ≡ j
first_unique g i j p q = le_antisymm (first_le g i j p.before q.settled) (first_le g j i q.before p.settled)

-- the settled values: the round of the count is the largest assignment that obeys the rules
pub count_largest : (g : Graph) → Closed g → Largest g (rounds g (count g))
count_largest g closed = settled_largest g closed (count g) (count_first g closed).settled

-- a budget of b rounds is spent where neither round b nor one before it is settled
pub stops_spent : (g : Graph) → Closed g → (b : ℕ) → ((j : ℕ) → j ≤ b → ¬ Settled g j) → b < count g
stops_spent g closed b f = first_le g (suc b) (count g) (λ j l. f j (omega arith)) (count_first g closed).settled
