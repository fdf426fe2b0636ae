-- Ranks that rest on smaller ones. Where no node is left to be ranked, every finite node of the settled values is ranked, if no cycle passes
-- through a cover edge; so they are accepted. Assumes nothing.
use Prim.Native.Nat.{ℕ, zero, suc, ◌+◌, ◌<◌}
use native.Mathlib.Decide.{ℕ_discrete}
use native.Mathlib.Nat.{le_refl, not-suc-le-zero, le_antisymm}
use native.Mathlib.Omega.{arith}
use mathlib.Core.Path.{◌≡◌, refl, sym, ap, subst}
use mathlib.Core.Bool.{true}
use mathlib.Core.Logic.{◌⊎◌, inl, inr}
use lib.Dec.{ltb}
use borrow.Author.Tests.{ltb-true, ltb-false}
use Rattle.lists.proofs.Tests.{by_test}
use Rattle.value.specs.Value.{Value, fin, inf, finite, ◌≼◌, ◌⊑◌}
use Rattle.value.proofs.Values.{fin-≼, ≼-fin, ≼-inf, ≼-up, ≼-plus, ≼-finite, finite-≼, ⊑-of_eq, ⊑-antisym, meets_mono, meets_inside}
use Rattle.rules.specs.Graph.{Graph, Closed}
use Rattle.rules.specs.Rounds.{Assignment, worst, rounds, Agree, Obeys}
use Rattle.rules.specs.Count.{count}
use Rattle.rules.specs.Depths.{Layered}
use Rattle.rules.proofs.Reasons as Reasons
use Rattle.rules.proofs.Reasons.{Reason, reason, at_most_lem, worst-≼, ≼-worst}
use Rattle.rules.proofs.Order.{plus_mono, obeys_below, largest_agree}
use Rattle.rules.proofs.Count.{count_largest}
use Rattle.support.specs.Claims.{Supported, by_hyper, by_cover, Support, Accepts}
use Rattle.ranking.specs.Ranking.{unranked}

-- what nodes have may be weakened
pub supported_map : {g : Graph} → Closed g → {x : Assignment} {Q R : ℕ → Type 0} {v : ℕ} → ((u : ℕ) → u < g.nodes → Q u → R u) → Supported g x Q v → Supported g x R v
supported_map closed f (by_hyper h m s e q) = by_hyper h m s e (λ t n. f t.node (closed.hyper m n) (q t n))
supported_map closed f (by_cover c m s e q) = by_cover c m s e (f c.target (closed.cover m) q)

-- ---- ranks on the way: each is below the next to be given, and rests on smaller ones

pub record Ranked (g : Graph) (x : Assignment) (next : ℕ) (rank : ℕ → ℕ) : Type 0 where
  pub below : (v : ℕ) → v < g.nodes → rank v < unranked → rank v < next
  pub backed : (v : ℕ) → v < g.nodes → rank v < unranked → Support g x rank v

-- no node has one
pub ranked_none : (g : Graph) (x : Assignment) (rank : ℕ → ℕ) → ((v : ℕ) → v < g.nodes → rank v ≡ unranked) → Ranked g x 0 rank
ranked_none g x rank f = record { below = λ v l h. absurd (omega (arith, f v l)); backed = λ v l h. absurd (omega (arith, f v l)) }

-- one more has
module _ {g : Graph} (closed : Closed g) {x : Assignment} {next : ℕ} {rank rank' : ℕ → ℕ} (r : Ranked g x next rank) (v : ℕ)
    (bare : rank v ≡ unranked) (support : Support g x rank v) (small : next < unranked) (here : rank' v ≡ next) (there : (u : ℕ) → ¬ (u ≡ v) → rank' u ≡ rank u) where
  -- a ranked node is another, and keeps its rank
  stays : (u : ℕ) → rank u < unranked → rank' u ≡ rank u
  stays u h = there u (λ e. let q : rank u ≡ rank v = ap rank e in omega arith)

  pub ranked_more : Ranked g x (next + 1) rank'
  ranked_more = record { below = λ u l h. low u l h (ℕ_discrete u v); backed = λ u l h. rests u l h (ℕ_discrete u v) }
    where
      low : (u : ℕ) → u < g.nodes → rank' u < unranked → Dec (u ≡ v) → rank' u < next + 1
      low u l h (yes e) = let q : rank' u ≡ rank' v = ap rank' e in omega arith
      low u l h (no e) = let q = there u e in let o = r.below u l (omega arith) in omega arith

      rests : (u : ℕ) → u < g.nodes → rank' u < unranked → Dec (u ≡ v) → Support g x rank' u
      rests u l h (yes e) = subst (Support g x rank') (sym e)
          (supported_map closed (λ w k q. let a : rank w < unranked = omega arith in let o = r.below w k a in let z = stays w a in omega arith) support)
      rests u l h (no e) =
          let q = there u e in
          let a : rank u < unranked = omega arith in
          supported_map closed (λ w k o. let z = stays w (omega arith) in omega arith) (r.backed u l a)

-- ---- where no node is left to be ranked, every finite node is ranked

-- a value that is at most k is less, or k
exact : (a : Value) (k : ℕ) → a ≼ k → ((j : ℕ) × (j < k) × (a ≼ j)) ⊎ (a ≡ fin k)
exact (fin a) k p =
    let h = ≼-fin p in
    by_test (ltb a k) (λ e. inl (a, ltb-true a k e, fin-≼ (le_refl a))) (λ e. inr (ap fin (le_antisymm h (ltb-false a k e))))
exact inf k p = ≼-inf p

module _ (g : Graph) (closed : Closed g) {x : Assignment} (agree : Agree g x (rounds g (count g))) where
  -- the settled values obey the rules, and are below every round
  pub settled_obeys : Obeys g x
  settled_obeys = (largest_agree g closed (count_largest g closed) agree).obeys

  settled_below : (i v : ℕ) → v < g.nodes → x v ⊑ rounds g i v
  settled_below i v l = obeys_below g closed settled_obeys i v l

  module _ {d : ℕ → ℕ} (layered : Layered g d) (R : ℕ → Type 0) (stable : (v : ℕ) → v < g.nodes → finite (x v) ≡ true → Supported g x R v → R v) where
    -- of two nodes that are as deep, the one with the smaller value comes first, then the one that is at most it in an earlier round
    module _ (a k : ℕ) (shallow : (u : ℕ) → u < g.nodes → d u < a → finite (x u) ≡ true → R u)
        (less : (u : ℕ) → u < g.nodes → d u < suc a → (j : ℕ) → j < k → x u ≼ j → R u) where
      by_reason : (i v : ℕ) → v < g.nodes → d v < suc a → x v ≡ fin k
          → ((u : ℕ) → u < g.nodes → d u < suc a → rounds g i u ≼ k → R u) → Reason g (rounds g i) v k → R v
      by_reason i v l h e before (Reasons.by_cover c m s t) =
          let lt = closed.cover m in
          let o = meets_mono c.bound (settled_below i c.target lt) t in
          let f = ≼-finite (meets_inside c.bound (x c.target) o).2 in
          let q = rw s at (layered.cover m) in
          stable v l (rw e refl) (by_cover c m s o (shallow c.target lt (omega arith) f))
      by_reason i v l h e before (Reasons.by_hyper b m s f) =
          stable v l (rw e refl) (by_hyper b m s (⊑-antisym upper lower) λ t n.
          let q = rw s at (layered.hyper m n) in
          let p = ≼-plus t.weight (rounds g i t.node) (f t n) in
          before t.node (closed.hyper m n) (omega arith) (≼-up p.1 (omega arith)))
        where
          upper : worst x b.targets ⊑ x v
          upper = record {
            carries = λ p.
                ≼-up (worst-≼ x b.targets (λ t n. plus_mono t.weight (settled_below i t.node (closed.hyper m n)) (f t n)))
                (≼-fin (rw e at p));
          }

          lower : x v ⊑ worst x b.targets
          lower = record {
            carries = λ p. (⊑-of_eq (sym (settled_obeys v l))).carries (at_most_lem g x v (Reasons.by_hyper b m s (≼-worst x b.targets p)));
          }

      by_rounds : (i v : ℕ) → v < g.nodes → d v < suc a → rounds g i v ≼ k → R v
      unfolding rounds
      by_rounds zero v l h p = ≼-inf p
      by_rounds (suc i) v l h p = go (exact (x v) k ((settled_below (suc i) v l).carries p)) (by_rounds i)
        where
          go : ((j : ℕ) × (j < k) × (x v ≼ j)) ⊎ (x v ≡ fin k) → ((u : ℕ) → u < g.nodes → d u < suc a → rounds g i u ≼ k → R u) → R v
          go (inl (j, q, o)) before = less v l h j q o
          go (inr e) before = by_reason i v l h e before (reason g (rounds g i) v p)

    -- the value in the settled round
    in_round : (v k : ℕ) → v < g.nodes → x v ≼ k → rounds g (count g) v ≼ k
    in_round v k l p = rw (← agree v l) p

    by_value : (a : ℕ) → ((u : ℕ) → u < g.nodes → d u < a → finite (x u) ≡ true → R u)
        → (k v : ℕ) → v < g.nodes → d v < suc a → x v ≼ k → R v
    by_value a shallow zero v l h p = by_rounds a zero shallow (λ u l h j q o. absurd (not-suc-le-zero q)) (count g) v l h (in_round v zero l p)
    by_value a shallow (suc k) v l h p =
        let before = by_value a shallow k in
        by_rounds a (suc k) shallow (λ u l h j q o. before u l h (≼-up o (omega arith))) (count g) v l h (in_round v (suc k) l p)

    by_depth : (a v : ℕ) → v < g.nodes → d v < a → finite (x v) ≡ true → R v
    by_depth zero v l h e = absurd (not-suc-le-zero h)
    by_depth (suc a) v l h e = let q = finite-≼ (x v) e in by_value a (by_depth a) q.0 v l h q.1

    stable_ranked : (v : ℕ) → v < g.nodes → finite (x v) ≡ true → R v
    stable_ranked v l e = by_depth (suc (d v)) v l (le_refl (suc (d v))) e

  -- so ranks that leave no node to be ranked are accepted, and so are ranks of all nodes
  pub stable_accepts : {d : ℕ → ℕ} → Layered g d → {next : ℕ} {rank : ℕ → ℕ} → Ranked g x next rank
      → ((v : ℕ) → v < g.nodes → finite (x v) ≡ true → Supported g x (λ u. rank u < unranked) v → rank v < unranked) → Accepts g x rank
  stable_accepts layered {rank = rank} r stable = record {
    obeys = settled_obeys;
    supported = λ v l f. r.backed v l (stable_ranked layered (λ u. rank u < unranked) stable v l f);
  }

  pub all_accepts : {next : ℕ} {rank : ℕ → ℕ} → Ranked g x next rank → ((v : ℕ) → v < g.nodes → rank v < unranked) → Accepts g x rank
  all_accepts r all = record { obeys = settled_obeys; supported = λ v l f. r.backed v l (all v l) }
