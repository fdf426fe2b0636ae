-- A turn that takes in the records of the nodes that changed, and no others: every other edge has targets that stayed. Assumes nothing.
use Prim.Native.Nat.{ℕ, suc, ◌+◌, ◌<◌}
use mathlib.Core.List.Memᴰ
use mathlib.Core.List.{List, [], ◌∷◌}
use mathlib.Core.Logic.{◌⊎◌, inl, inr}
use mathlib.Core.Path.{◌≡◌, refl, sym, ap, subst}
use lib.ListN.{get_or}
use native.Mathlib.Decide.{ℕ_discrete}
use native.Mathlib.Omega.{arith}
use Rattle.lists.specs.Lists.{◌∈◌}
use Rattle.wire.specs.Layout.{items, end}
use Rattle.wire.proofs.Stride.{end_wide}
use Rattle.wire.proofs.Parts.{∈-items}
use Rattle.value.proofs.Stored.{⊑-stored}
use Rattle.rules.specs.Graph.{Graph, Hyper, Cover, Target, Closed}
use Rattle.rules.specs.Rounds.{rounds}
use Rattle.rules.proofs.Order.{rounds_fall}
use Rattle.rules.proofs.Skip.{Part, IdleHyper, IdleCover, stayed_hyper, stayed_cover}
use Rattle.graph.specs.Format.{graph_header}
use Rattle.graph.specs.Layouts.{hyper_layout, cover_layout, decoded}
use Rattle.links.specs.declared.Place.{Place}
use Rattle.links.specs.Links.{Finds, Reached, hyper_at, cover_at, Index}
use Rattle.changes.specs.Listed.{Fallen, Listed}
use Rattle.chains.specs.Taken.{Has, TakenAll}
use Rattle.links.proofs.Linking.{hyper_far}
use Rattle.graph.specs.Ready.{Ready}
use Rattle.turns.specs.Turns.{AtRound}
use Rattle.turns.proofs.Loop.{same_stays}

-- no number of the next round is above that of this one
pub round_fallen : (g : Graph) → Closed g → {budget i : ℕ} {b₀ b : List ℕ} → AtRound g budget i b₀ b → Fallen g.nodes b
round_fallen g closed {budget} {i} w v l = omega (arith, w.this v l, w.next v l, ⊑-stored (rounds g (suc i) v) (rounds g i v) (rounds_fall g closed i v l))

-- all targets stayed, or one of them changed
targets_stay : (n : ℕ) (b : List ℕ) (ts : List Target)
    → ((t : Target) → t ∈ ts → get_or b t.node 0 ≡ get_or b (n + t.node) 0) ⊎ ((t : Target) × (t ∈ ts) × ¬ (get_or b t.node 0 ≡ get_or b (n + t.node) 0))
targets_stay n b [] = inl (λ t m. absurd (Memᴰ.not-nil m))
targets_stay n b (u ∷ ts) = go (ℕ_discrete (get_or b u.node 0) (get_or b (n + u.node) 0)) (targets_stay n b ts)
  where
    go : Dec (get_or b u.node 0 ≡ get_or b (n + u.node) 0)
        → ((t : Target) → t ∈ ts → get_or b t.node 0 ≡ get_or b (n + t.node) 0) ⊎ ((t : Target) × (t ∈ ts) × ¬ (get_or b t.node 0 ≡ get_or b (n + t.node) 0))
        → ((t : Target) → t ∈ (u ∷ ts) → get_or b t.node 0 ≡ get_or b (n + t.node) 0) ⊎ ((t : Target) × (t ∈ (u ∷ ts)) × ¬ (get_or b t.node 0 ≡ get_or b (n + t.node) 0))
    go (no e) rest = inr (u, Memᴰ.head refl, e)
    go (yes e) (inr r) = inr (r.0, Memᴰ.tail r.1, r.2)
    go (yes e) (inl all) = inl (λ t m. each t (Memᴰ.cases_cons m))
      where
        each : (t : Target) → (t ≡ u) ⊎ (t ∈ ts) → get_or b t.node 0 ≡ get_or b (n + t.node) 0
        each t (inl z) = rw z e
        each t (inr m) = all t m

-- a turn has at hand: the graph is ready, its places are linked, the changed nodes are listed, and their records are taken in
module _ {s : List ℕ} {n h c middle most many : ℕ} {nodes heads : List ℕ} {places : List Place} {b b₁ b₂ : List ℕ} (ready : Ready s n h c) (behind : middle ≡ end (hyper_layout s n) h graph_header)
    (index : Index s n h c middle most heads places) (listed : Listed n n many b nodes) (all : TakenAll s n h c middle many nodes heads places b₁ b₂)
    {budget i : ℕ} {b₀ : List ℕ} (w : AtRound (decoded s n h c) budget i b₀ b) where
  -- the part has every record that has a changed node as a target
  has_changed : (v : ℕ) → v < n → ¬ (get_or b v 0 ≡ get_or b (n + v) 0) → (at : ℕ) → Finds heads places v at → Has s n middle all.part at
  has_changed v named ne at f =
      let r = listed.reach v named ne in
      subst (Has s n middle all.part) f.stands
      (all.has r.0 r.1 f.place (subst (λ (u : ℕ). Reached places f.place (get_or heads u 0)) (sym r.2) f.reached))

  stays : (v : ℕ) → v < n → get_or b v 0 ≡ get_or b (n + v) 0 → rounds (decoded s n h c) i v ≡ rounds (decoded s n h c) (suc i) v
  unfolding decoded
  stays v named e = same_stays (decoded s n h c) ready.closed ready.storable w v named e

  hyper_in_part : {x : Hyper} → x ∈ items (hyper_layout s n) h graph_header → (j : ℕ) × (j < h) × (x ≡ (hyper_layout s n).item (end (hyper_layout s n) j graph_header))
      → (x ∈ all.part.hypers) ⊎ IdleHyper (rounds (decoded s n h c) (suc i)) x
  unfolding decoded
  hyper_in_part {x} m (j, l, is) = go (targets_stay n b x.targets)
    where
      go : ((t : Target) → t ∈ x.targets → get_or b t.node 0 ≡ get_or b (n + t.node) 0) ⊎ ((t : Target) × (t ∈ x.targets) × ¬ (get_or b t.node 0 ≡ get_or b (n + t.node) 0))
          → (x ∈ all.part.hypers) ⊎ IdleHyper (rounds (decoded s n h c) (suc i)) x
      go (inl stay) = inr (stayed_hyper (decoded s n h c) i m (λ t k. stays t.node (ready.closed.hyper m k) (stay t k)))
      go (inr (t, k, ne)) =
          let found = index.hypers j t l (subst (λ (y : Hyper). t ∈ y.targets) is k) in
          let has = has_changed t.node (ready.closed.hyper m k) ne (hyper_at s n j) found in
          inl (subst (λ (y : Hyper). y ∈ all.part.hypers) (sym is) (has.hyper (omega (arith, hyper_far s n j h (omega arith), behind))))

  cover_in_part : {x : Cover} → x ∈ items (cover_layout s n) c middle → (j : ℕ) × (j < c) × (x ≡ (cover_layout s n).item (end (cover_layout s n) j middle))
      → (x ∈ all.part.covers) ⊎ IdleCover (rounds (decoded s n h c) (suc i)) x
  unfolding decoded
  cover_in_part {x} m (j, l, is) = go (ℕ_discrete (get_or b x.target 0) (get_or b (n + x.target) 0))
    where
      whole : x ∈ items (cover_layout s n) c (end (hyper_layout s n) h graph_header)
      whole = subst (λ (p : ℕ). x ∈ items (cover_layout s n) c p) behind m

      go : Dec (get_or b x.target 0 ≡ get_or b (n + x.target) 0) → (x ∈ all.part.covers) ⊎ IdleCover (rounds (decoded s n h c) (suc i)) x
      go (yes e) = inr (stayed_cover (decoded s n h c) i whole (stays x.target (ready.closed.cover whole) e))
      go (no ne) =
          let target : ((cover_layout s n).item (cover_at s n middle j)).target ≡ x.target = ap (λ (y : Cover). y.target) (sym is) in
          let found = subst (λ (v : ℕ). Finds heads places v (cover_at s n middle j)) target (index.covers j l) in
          let has = has_changed x.target (ready.closed.cover whole) ne (cover_at s n middle j) found in
          inl (subst (λ (y : Cover). y ∈ all.part.covers) (sym is) (has.cover (omega (arith, end_wide (cover_layout s n) 8 (λ p. refl) j middle))))

  -- every other edge has targets that stayed
  pub taken_part : Part (decoded s n h c) all.part (rounds (decoded s n h c) (suc i))
  unfolding decoded
  taken_part = record {
    nodes = all.taken.nodes;
    hyper_of = all.taken.hyper_of;
    cover_of = λ {c = x} m. subst (λ (p : ℕ). x ∈ items (cover_layout s n) c p) behind (all.taken.cover_of m);
    hyper_in = λ m. hyper_in_part m (∈-items (hyper_layout s n) h graph_header m);
    cover_in = λ {c = x} m. let m' = subst (λ (p : ℕ). x ∈ items (cover_layout s n) c p) (sym behind) m in cover_in_part m' (∈-items (cover_layout s n) c middle m');
  }
