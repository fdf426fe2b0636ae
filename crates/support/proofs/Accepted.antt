-- Accepted claims are the largest assignment that obeys the rules, so demand 2's values. Assumes nothing.
use Prim.Native.Nat.{ℕ, zero, suc, ◌-◌, ◌*◌, ◌<◌}
use native.Mathlib.Nat.{not-suc-le-zero, le_refl}
use native.Mathlib.Omega.{arith}
use mathlib.Core.Path.{◌≡◌, sym}
use mathlib.Core.Bool.{true}
use Rattle.value.specs.Value.{finite, ◌≼◌, ◌⊑◌}
use Rattle.value.proofs.Values.{≼-finite, ⊑-of_eq, meets_mono}
use Rattle.rules.specs.Graph.{Graph, Closed, heaviest}
use Rattle.rules.specs.Rounds.{Assignment, rounds, Agree, Obeys, Largest}
use Rattle.rules.specs.Count.{count}
use Rattle.rules.proofs.Reasons as Reasons
use Rattle.rules.proofs.Reasons.{Reason, ≼-worst, at_most_lem}
use Rattle.rules.proofs.Order.{plus_mono, largest_unique}
use Rattle.rules.proofs.Size.{value_bound, heaviest_light}
use Rattle.rules.proofs.Count.{count_largest}
use Rattle.support.specs.Claims.{Support, by_hyper, by_cover, Accepts}

module _ (g : Graph) (closed : Closed g) {x : Assignment} {rank : ℕ → ℕ} (ok : Accepts g x rank) (y : Assignment) (rules : Obeys g y) where
  -- where y is below x at the nodes of smaller rank, a support of v under x is a reason for v under y
  under : (v : ℕ) {k : ℕ} → x v ≼ k → ((u : ℕ) → u < g.nodes → rank u < rank v → y u ⊑ x u) → Support g x rank v → Reason g y v k
  under v {k} p before (by_hyper h m s e f) = Reasons.by_hyper h m s λ t n.
      plus_mono t.weight (before t.node (closed.hyper m n) (f t n)) (≼-worst x h.targets (rw e p) t n)
  under v p before (by_cover c m s e l) = Reasons.by_cover c m s (meets_mono c.bound (before c.target (closed.cover m) l) e)

  -- so y is below x, rank by rank
  below : (r v : ℕ) → v < g.nodes → rank v < r → y v ⊑ x v
  below zero v l h = absurd (not-suc-le-zero h)
  below (suc r) v l h = go (below r)
    where
      go : ((u : ℕ) → u < g.nodes → rank u < r → y u ⊑ x u) → y v ⊑ x v
      go before = record {
        carries = λ p. (⊑-of_eq (sym (rules v l))).carries
            (at_most_lem g y v (under v p (λ u k i. before u k (omega arith)) (ok.supported v l (≼-finite p))));
      }

module _ (g : Graph) (closed : Closed g) {x : Assignment} {rank : ℕ → ℕ} (ok : Accepts g x rank) where
  pub accepted_largest : Largest g x
  accepted_largest = record { obeys = ok.obeys; largest = λ y o v l. below g closed ok y o (suc (rank v)) v l (le_refl (suc (rank v))) }

  -- and agree with the settled values at every node
  pub accepted_settled : Agree g x (rounds g (count g))
  accepted_settled = largest_unique g x (rounds g (count g)) accepted_largest (count_largest g closed)

  -- so no finite claim is above the heaviest weight for each other node: a larger one need not be added up to be refused
  pub accepted_bound : (v : ℕ) → v < g.nodes → finite (x v) ≡ true → x v ≼ ((g.nodes - 1) * heaviest g.hypers)
  accepted_bound v l e =
      let q = accepted_settled v l in rw q (value_bound g closed (heaviest g.hypers) (heaviest_light g) (count g) v l (rw q at e))
