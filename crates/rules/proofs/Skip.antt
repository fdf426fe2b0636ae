-- What a round may leave out: a part of a graph that has every edge which gives something new gives the same next round. Assumes nothing.
use mathlib.Core.Path.{◌≡◌, refl, sym, ap, subst, ◌∙◌}
use mathlib.Core.Bool.{true}
use mathlib.Core.Logic.{◌⊎◌, inl, inr}
use Prim.Native.Nat.{ℕ, suc, ◌<◌}
use Rattle.lists.specs.Lists.{◌∈◌}
use Rattle.value.specs.Value.{Value, fin, inf, plus, least, meets, ◌≼◌}
use Rattle.rules.specs.Graph.{Graph, Target, Hyper, Cover, Closed}
use Rattle.rules.specs.Rounds.{Assignment, cover_holds, round, rounds, Agree, Below}
use Rattle.value.proofs.Values.{least-≼, ≼-least, ⊑-inf, ⊑-antisym}
use Rattle.rules.proofs.Reasons.{Reason, by_cover, by_hyper, reason, at_most_lem}
use Rattle.rules.proofs.Order.{round_agree, rounds_fall}

-- an edge that gives its source nothing below what it has
pub record IdleHyper (x : Assignment) (h : Hyper) : Type 0 where
  pub gives : {k : ℕ} → ((t : Target) → t ∈ h.targets → plus t.weight (x t.node) ≼ k) → x h.source ≼ k

pub record IdleCover (x : Assignment) (c : Cover) : Type 0 where
  pub gives : (k : ℕ) → cover_holds x c ≡ true → x c.source ≼ k

-- p is a part of g, and every edge of g that p lacks is idle under x
pub record Part (g p : Graph) (x : Assignment) : Type 0 where
  pub nodes : p.nodes ≡ g.nodes
  pub hyper_of : {h : Hyper} → h ∈ p.hypers → h ∈ g.hypers
  pub cover_of : {c : Cover} → c ∈ p.covers → c ∈ g.covers
  pub hyper_in : {h : Hyper} → h ∈ g.hypers → (h ∈ p.hypers) ⊎ IdleHyper x h
  pub cover_in : {c : Cover} → c ∈ g.covers → (c ∈ p.covers) ⊎ IdleCover x c

pub part_closed : {g p : Graph} {x : Assignment} → Closed g → Part g p x → Closed p
part_closed closed part = record {
  hyper_source = λ m. rw part.nodes (closed.hyper_source (part.hyper_of m));
  hyper = λ m n. rw part.nodes (closed.hyper (part.hyper_of m) n);
  cover_source = λ m. rw part.nodes (closed.cover_source (part.cover_of m));
  cover = λ m. rw part.nodes (closed.cover (part.cover_of m));
}

-- the least of x and what the part gives is what the whole gives, where that is nowhere above x
pub skip : (g p : Graph) (x : Assignment) → Part g p x → Below g (round g x) x → (v : ℕ) → v < g.nodes → least (x v) (round p x v) ≡ round g x v
skip g p x part falls v l = ⊑-antisym (record { carries = λ q. some (reason g x v q) }) (record { carries = λ q. whole (≼-least (x v) (round p x v) q) })
  where
    some : {k : ℕ} → Reason g x v k → least (x v) (round p x v) ≼ k
    some {k} (by_cover c m s e) = least-≼ (x v) (round p x v) (go (part.cover_in m))
      where
        go : (c ∈ p.covers) ⊎ IdleCover x c → (x v ≼ k) ⊎ (round p x v ≼ k)
        go (inl n) = inr (at_most_lem p x v (by_cover c n s e))
        go (inr idle) = inl (subst (λ (u : ℕ). x u ≼ k) s (idle.gives k e))
    some {k} (by_hyper h m s f) = least-≼ (x v) (round p x v) (go (part.hyper_in m))
      where
        go : (h ∈ p.hypers) ⊎ IdleHyper x h → (x v ≼ k) ⊎ (round p x v ≼ k)
        go (inl n) = inr (at_most_lem p x v (by_hyper h n s f))
        go (inr idle) = inl (subst (λ (u : ℕ). x u ≼ k) s (idle.gives f))

    part_whole : {k : ℕ} → Reason p x v k → Reason g x v k
    part_whole (by_cover c m s e) = by_cover c (part.cover_of m) s e
    part_whole (by_hyper h m s f) = by_hyper h (part.hyper_of m) s f

    whole : {k : ℕ} → (x v ≼ k) ⊎ (round p x v ≼ k) → round g x v ≼ k
    whole (inl q) = (falls v l).carries q
    whole (inr q) = at_most_lem g x v (part_whole (reason p x v q))

module _ (g : Graph) (i : ℕ) where
  -- an edge whose targets stayed in the last round is idle
  pub stayed_hyper : {h : Hyper} → h ∈ g.hypers → ((t : Target) → t ∈ h.targets → rounds g i t.node ≡ rounds g (suc i) t.node) → IdleHyper (rounds g (suc i)) h
  unfolding rounds
  stayed_hyper {h} m stay = record {
    gives = λ {k} f. at_most_lem g (rounds g i) h.source
        (by_hyper h m refl (λ t n. subst (λ (a : Value). plus t.weight a ≼ k) (sym (stay t n)) (f t n)));
  }

  pub stayed_cover : {c : Cover} → c ∈ g.covers → rounds g i c.target ≡ rounds g (suc i) c.target → IdleCover (rounds g (suc i)) c
  unfolding rounds
  stayed_cover {c} m stay = record {
    gives = λ k e. at_most_lem g (rounds g i) c.source
        (by_cover c m refl (ap (meets c.bound) stay ∙ e));
  }

-- so the least of round i and what the part gives from it is round i + 1; x holds round i
pub skip_round : (g p : Graph) → Closed g → (i : ℕ) → Part g p (rounds g i) → {x : Assignment} → Agree g x (rounds g i)
    → (v : ℕ) → v < g.nodes → least (rounds g i v) (round p x v) ≡ rounds g (suc i) v
unfolding rounds
skip_round g p closed i part {x} e v l =
    ap (least (rounds g i v)) (round_agree p (part_closed closed part) (λ u k. e u (rw part.nodes at k)) v (rw part.nodes l))
    ∙ skip g p (rounds g i) part (rounds_fall g closed i) v l

-- a node without edges gets nothing
no_edge : (p : Graph) (x : Assignment) (v : ℕ) → ((h : Hyper) → h ∈ p.hypers → ¬ (h.source ≡ v)) → ((c : Cover) → c ∈ p.covers → ¬ (c.source ≡ v)) → round p x v ≡ inf
no_edge p x v hs cs = ⊑-antisym ⊑-inf (record { carries = λ q. none (reason p x v q) })
  where
    none : {k : ℕ} → Reason p x v k → inf ≼ k
    none (by_cover c m s e) = absurd (cs c m s)
    none (by_hyper h m s f) = absurd (hs h m s)

least_inf : (a : Value) → least a inf ≡ a
least_inf (fin a) = refl
least_inf inf = refl

-- so a node that the part has no edge of stays
pub untouched : (g p : Graph) → Closed g → (i : ℕ) → Part g p (rounds g i) → (v : ℕ) → v < g.nodes
    → ((h : Hyper) → h ∈ p.hypers → ¬ (h.source ≡ v)) → ((c : Cover) → c ∈ p.covers → ¬ (c.source ≡ v)) → rounds g i v ≡ rounds g (suc i) v
untouched g p closed i part v l hs cs =
    sym (least_inf (rounds g i v)) ∙ ap (least (rounds g i v)) (sym (no_edge p (rounds g i) v hs cs)) ∙ skip_round g p closed i part (λ u k. refl) v l
