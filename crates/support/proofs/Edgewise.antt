-- Claims may be checked edge by edge, with no round worked out: no hyperedge gives less than its source claims, each cover edge that
-- holds has a source that claims 0, and each finite node has a support. Assumes nothing.
use Prim.Native.Nat.{ℕ, zero, suc, ◌+◌, ◌-◌, ◌*◌, ◌≤◌, ◌<◌}
use native.Mathlib.Nat.{le_refl, not-suc-le-zero, mul-le-mul_right, suc-mul}
use native.Mathlib.Omega.{arith}
use mathlib.Core.Path.{◌≡◌, refl, sym, ap}
use mathlib.Core.Bool.{true}
use lib.Dec.{ltb}
use borrow.Author.Tests.{ltb-true, lt-ltb, le-ltb}
use Rattle.lists.specs.Lists.{◌∈◌, up_to}
use Rattle.lists.proofs.Lists.{how_many, how_many_le, how_many_more, up_to_length, up_to-∈}
use Rattle.value.specs.Value.{Value, fin, inf, finite, ◌≼◌, ◌⊑◌}
use Rattle.value.proofs.Values.{fin-≼, ≼-fin, ≼-inf, ≼-up, plus-≼, ≼-plus, finite-≼, ≼-finite, ⊑-of_eq, ⊑-antisym}
use Rattle.rules.specs.Graph.{Graph, Hyper, Cover, Closed}
use Rattle.rules.specs.Rounds.{Assignment, cover_holds, worst, Obeys}
use Rattle.rules.proofs.Size.{Light}
use Rattle.rules.proofs.Reasons as Reasons
use Rattle.rules.proofs.Reasons.{Reason, reason, at_most_lem, worst-≼, ≼-worst}
use Rattle.support.specs.Claims.{by_hyper, by_cover, Support, Accepts}

pub record Edgewise (g : Graph) (x : Assignment) (rank : ℕ → ℕ) : Type 0 where
  pub hyper : {h : Hyper} → h ∈ g.hypers → x h.source ⊑ worst x h.targets
  pub cover : {c : Cover} → c ∈ g.covers → cover_holds x c ≡ true → x c.source ≡ fin 0
  pub supported : (v : ℕ) → v < g.nodes → finite (x v) ≡ true → Support g x rank v

≼-zero : {a : Value} → a ≼ 0 → a ≡ fin 0
≼-zero {a = fin a} p = let h = ≼-fin p in ap fin (omega arith)
≼-zero {a = inf} p = ≼-inf p

module _ {g : Graph} {x : Assignment} where
  -- values that obey the rules are at most what a reason gives
  reason_obeyed : Obeys g x → {v k : ℕ} → v < g.nodes → Reason g x v k → x v ≼ k
  reason_obeyed ok {v} l r = (⊑-of_eq (sym (ok v l))).carries (at_most_lem g x v r)

  -- so the source of a cover edge that holds is 0
  pub holds_zero : Closed g → Obeys g x → {c : Cover} → c ∈ g.covers → cover_holds x c ≡ true → x c.source ≡ fin 0
  holds_zero closed ok m e = ≼-zero (reason_obeyed ok (closed.cover_source m) (Reasons.by_cover _ m refl e))

module _ {g : Graph} {x : Assignment} {rank : ℕ → ℕ} where
  -- a support is a reason for the node's own value
  support_reason : {v k : ℕ} → x v ≼ k → Support g x rank v → Reason g x v k
  support_reason p (by_hyper h m s e f) = Reasons.by_hyper h m s (≼-worst x h.targets (rw e p))
  support_reason p (by_cover c m s e f) = Reasons.by_cover c m s e

  -- a reason under the claims gives no less than is claimed
  reason_claim : Edgewise g x rank → {v k : ℕ} → Reason g x v k → x v ≼ k
  reason_claim ok (Reasons.by_cover c m s e) = rw (← s, ok.cover m e) (fin-≼ (omega arith))
  reason_claim ok (Reasons.by_hyper h m s f) = rw (← s) ((ok.hyper m).carries (worst-≼ x h.targets f))

  pub edgewise_accepted : Edgewise g x rank → Accepts g x rank
  edgewise_accepted ok = record {
    obeys = λ v l. ⊑-antisym (record { carries = λ p. at_most_lem g x v (support_reason p (ok.supported v l (≼-finite p))) })
        (record { carries = λ p. reason_claim ok (reason g x v p) });
    supported = ok.supported;
  }

  pub accepted_edgewise : Closed g → Accepts g x rank → Edgewise g x rank
  accepted_edgewise closed ok = record {
    hyper = λ m. record { carries = λ p. reason_obeyed ok.obeys (closed.hyper_source m) (Reasons.by_hyper _ m refl (≼-worst x _ p)) };
    cover = λ m e. holds_zero closed ok.obeys m e;
    supported = ok.supported;
  }

-- ---- how large a supported claim can be, whatever the hyperedges give otherwise

module _ (g : Graph) (closed : Closed g) (w : ℕ) (light : Light g w) (x : Assignment) (rank : ℕ → ℕ)
    (zeros : (c : Cover) → c ∈ g.covers → cover_holds x c ≡ true → x c.source ≡ fin 0)
    (supported : (v : ℕ) → v < g.nodes → finite (x v) ≡ true → Support g x rank v) where
  -- how many nodes have a smaller rank
  fewer : ℕ → ℕ
  fewer v = how_many (λ u. ltb (rank u) (rank v)) (up_to g.nodes)

  fewer_lt : (t v : ℕ) → t < g.nodes → rank t < rank v → fewer t < fewer v
  unfolding fewer
  fewer_lt t v l h =
      how_many_more (λ u. ltb (rank u) (rank t)) (λ u. ltb (rank u) (rank v)) (up_to g.nodes)
      (λ u m e. let k = ltb-true (rank u) (rank t) e in lt-ltb (rank u) (rank v) (omega arith))
      t (up_to-∈ g.nodes l) (le-ltb (rank t) (rank t) (le_refl (rank t))) (lt-ltb (rank t) (rank v) h)

  fewer_all : (v : ℕ) → v < g.nodes → fewer v < g.nodes
  unfolding fewer
  fewer_all v l =
      let a = how_many_more (λ u. ltb (rank u) (rank v)) (λ u. true) (up_to g.nodes) (λ u m e. refl) v (up_to-∈ g.nodes l)
      (le-ltb (rank v) (rank v) (le_refl (rank v))) refl in
      let b = how_many_le (λ u. true) (up_to g.nodes) in
      let c = up_to_length g.nodes in
      omega arith

  by_support : (v : ℕ) → finite (x v) ≡ true
      → ((u : ℕ) → u < g.nodes → rank u < rank v → finite (x u) ≡ true → x u ≼ (fewer u * w)) → Support g x rank v → x v ≼ (fewer v * w)
  by_support v e before (by_hyper h m s q f) = rw (← q)
      (worst-≼ x h.targets λ t n.
      let (k, o) = finite-≼ (x v) e in
      let o' : worst x h.targets ≼ k = rw q o in
      let p = ≼-plus t.weight (x t.node) (≼-worst x h.targets o' t n) in
      let l = closed.hyper m n in
      let a = light.weight m n in
      let b : fewer t.node * w + w ≤ fewer v * w = rw suc-mul at (mul-le-mul_right w (fewer_lt t.node v l (f t n))) in
      plus-≼ t.weight (x t.node) (before t.node l (f t n) (≼-finite p.1)) (omega arith))
  by_support v e before (by_cover c m s q f) = rw (← s, zeros c m q) (fin-≼ (omega arith))

  by_rank : (r v : ℕ) → v < g.nodes → rank v < r → finite (x v) ≡ true → x v ≼ (fewer v * w)
  by_rank zero v l h e = absurd (not-suc-le-zero h)
  by_rank (suc r) v l h e =
      let before = by_rank r in by_support v e (λ u k i f. before u k (omega arith) f) (supported v l e)

  pub supported_bound : (v : ℕ) → v < g.nodes → finite (x v) ≡ true → x v ≼ ((g.nodes - 1) * w)
  supported_bound v l e = let h = fewer_all v l in ≼-up (by_rank (suc (rank v)) v l (le_refl (suc (rank v))) e) (mul-le-mul_right w (omega arith))
