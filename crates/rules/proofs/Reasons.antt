-- Why a node is at most k in a round: a cover edge of it holds, or each target of a hyperedge of it comes to at most k.
-- All that follows about rounds goes through `reason` and `at-most`, and looks into no definition of a round again. Assumes nothing.
use mathlib.Core.Path.{◌≡◌, refl, sym, subst}
use mathlib.Core.Bool.{Bool, true, false, cond, ◌&&◌}
use mathlib.Core.Logic.{◌⊎◌, inl, inr}
use mathlib.Core.List.Memᴰ
use mathlib.Core.List.{List, [], ◌∷◌}
use Prim.Native.Nat.{ℕ}
use native.Mathlib.Omega.{arith}
use lib.Dec.{eqb}
use borrow.Author.Tests.{eqb-true, eq-eqb}
use Rattle.value.specs.Value.{Value, fin, inf, plus, ◌≼◌}
use Rattle.lists.proofs.Tests.{and_left, and_right}
use Rattle.lists.specs.Lists.{◌∈◌}
use Rattle.rules.specs.Graph.{Target, Hyper, Cover, Graph}
use Rattle.rules.specs.Rounds.{Assignment, cover_holds, covered, worst, best, round}
use Rattle.lists.proofs.Lists.{any_true, true_any}
use Rattle.value.proofs.Values.{fin-≼, ≼-inf, greatest-≼, ≼-greatest, least-≼, ≼-least}

pub data Reason (g : Graph) (x : Assignment) (v k : ℕ) : Type 0 where
  by_cover : (c : Cover) → c ∈ g.covers → c.source ≡ v → cover_holds x c ≡ true → Reason g x v k
  by_hyper : (h : Hyper) → h ∈ g.hypers → h.source ≡ v → ((t : Target) → t ∈ h.targets → plus t.weight (x t.node) ≼ k) → Reason g x v k

module _ (x : Assignment) where
  -- a hyperedge's worst is at most k where each target is
  pub worst-≼ : {k : ℕ} (ts : List Target) → ((t : Target) → t ∈ ts → plus t.weight (x t.node) ≼ k) → worst x ts ≼ k
  unfolding worst
  worst-≼ [] f = fin-≼ (omega arith)
  worst-≼ (t ∷ ts) f =
      greatest-≼ (plus t.weight (x t.node)) (worst x ts) (f t (Memᴰ.head refl)) (worst-≼ ts (λ u m. f u (Memᴰ.tail m)))

  -- and back
  pub ≼-worst : {k : ℕ} (ts : List Target) → worst x ts ≼ k → (t : Target) → t ∈ ts → plus t.weight (x t.node) ≼ k
  unfolding worst
  ≼-worst [] p t m = absurd (Memᴰ.not-nil m)
  ≼-worst {k} (u ∷ ts) p t (Memᴰ.head e) =
      subst (λ (t : Target). plus t.weight (x t.node) ≼ k) (sym e) (≼-greatest (plus u.weight (x u.node)) (worst x ts) p).0
  ≼-worst (u ∷ ts) p t (Memᴰ.tail m) = ≼-worst ts (≼-greatest (plus u.weight (x u.node)) (worst x ts) p).1 t m

  module _ (v : ℕ) where
    -- what a hyperedge gives v: nothing where it is another node's
    abbrev offer : Hyper → Value
    offer h = cond (eqb h.source v) (worst x h.targets) inf

    offer-≼ : {k : ℕ} (h : Hyper) → h.source ≡ v → worst x h.targets ≼ k → offer h ≼ k
    offer-≼ h s p = rw (eq-eqb h.source v s) p

    ≼-offer : {k : ℕ} (h : Hyper) → offer h ≼ k → (h.source ≡ v) × (worst x h.targets ≼ k)
    ≼-offer {k} h p = go (eqb h.source v) refl p
      where
        go : (t : Bool) → eqb h.source v ≡ t → cond t (worst x h.targets) inf ≼ k → (h.source ≡ v) × (worst x h.targets ≼ k)
        go true e p = (eqb-true h.source v e, p)
        go false e p = ≼-inf p

    best-≼ : {k : ℕ} (hs : List Hyper) (h : Hyper) → h ∈ hs → offer h ≼ k → best x v hs ≼ k
    unfolding best
    best-≼ [] h m p = absurd (Memᴰ.not-nil m)
    best-≼ {k} (h' ∷ hs) h (Memᴰ.head e) p = least-≼ (offer h') (best x v hs) (inl (subst (λ (h : Hyper). offer h ≼ k) e p))
    best-≼ (h' ∷ hs) h (Memᴰ.tail m) p = least-≼ (offer h') (best x v hs) (inr (best-≼ hs h m p))

    ≼-best : {k : ℕ} (hs : List Hyper) → best x v hs ≼ k → (h : Hyper) × (h ∈ hs) × (offer h ≼ k)
    unfolding best
    ≼-best [] p = ≼-inf p
    ≼-best {k} (h ∷ hs) p = go (≼-best hs) (≼-least (offer h) (best x v hs) p)
      where
        go : (best x v hs ≼ k → (h : Hyper) × (h ∈ hs) × (offer h ≼ k)) → (offer h ≼ k) ⊎ (best x v hs ≼ k)
            → (h' : Hyper) × (h' ∈ (h ∷ hs)) × (offer h' ≼ k)
        go rest (inl q) = (h, Memᴰ.head refl, q)
        go rest (inr q) = let r = rest q in (r.0, Memᴰ.tail r.1, r.2)

-- from the definition of a round, and back
pub reason : (g : Graph) (x : Assignment) (v : ℕ) {k : ℕ} → round g x v ≼ k → Reason g x v k
unfolding round covered
reason g x v {k} p = go (covered x v g.covers) refl p
  where
    go : (t : Bool) → covered x v g.covers ≡ t → cond t (fin 0) (best x v g.hypers) ≼ k → Reason g x v k
    go true e p =
        let r = any_true (λ c. eqb c.source v && cover_holds x c) g.covers e in
        by_cover r.0 r.1 (eqb-true r.0.source v (and_left (eqb r.0.source v) (cover_holds x r.0) r.2))
        (and_right (eqb r.0.source v) (cover_holds x r.0) r.2)
    go false e p =
        let r = ≼-best x v g.hypers p in
        let o = ≼-offer x v r.0 r.2 in
        by_hyper r.0 r.1 o.0 (≼-worst x r.0.targets o.1)

pub at_most_lem : (g : Graph) (x : Assignment) (v : ℕ) {k : ℕ} → Reason g x v k → round g x v ≼ k
unfolding round covered
at_most_lem g x v (by_cover c m s e) = rw (true_any (λ c. eqb c.source v && cover_holds x c) g.covers c m (rw (eq-eqb c.source v s, e))) (fin-≼ (omega arith))
at_most_lem g x v {k} (by_hyper h m s f) = go (covered x v g.covers)
  where
    go : (t : Bool) → cond t (fin 0) (best x v g.hypers) ≼ k
    go true = fin-≼ (omega arith)
    go false = best-≼ x v g.hypers h m (offer-≼ x v h s (worst-≼ x h.targets f))
