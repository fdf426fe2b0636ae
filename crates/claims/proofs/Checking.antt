-- What a scan of all edges says of the claims: they are accepted, or not. Assumes nothing.
use Prim.Native.Nat.{ℕ, ◌+◌, ◌-◌, ◌*◌, ◌≤◌, ◌<◌}
use native.Mathlib.Omega.{arith}
use mathlib.Core.Bool.{true}
use mathlib.Core.List.{List}
use mathlib.Core.Logic.{◌⊎◌, inl, inr}
use mathlib.Core.Path.{◌≡◌, sym, ap, subst}
use lib.ListN.{get_or, replicate}
use Rattle.lists.specs.Lists.{◌∈◌}
use Rattle.value.specs.Value.{Value, fin, inf, finite, ◌≼◌, ◌⊑◌}
use Rattle.value.specs.Stored.{stored, infinite}
use Rattle.value.proofs.Values.{≼-fin, ≼-inf, ≼-plus, plus-≼, ≼-finite, fin-⊑-fin}
use Rattle.value.proofs.Stored.{⊑-stored}
use Rattle.wire.specs.Bytes.{Bytes, number}
use Rattle.wire.specs.Layout.{end}
use Rattle.wire.proofs.Bytes.{number_below}
use Rattle.wire.proofs.Parts.{∈-items}
use Rattle.rules.specs.Graph.{Graph, Target, Hyper, Cover, Closed}
use Rattle.graph.specs.Format.{graph_header, target_count_at, hyper_width}
use Rattle.graph.specs.Layouts.{target_layout, hyper_layout, decoded}
use Rattle.rules.specs.Rounds.{Assignment, worst}
use Rattle.rules.proofs.Reasons.{worst-≼, ≼-worst}
use Rattle.rules.proofs.Size.{Light}
use Rattle.support.specs.Claims.{Support, by_hyper, by_cover, Accepts}
use Rattle.support.specs.Backing.{HyperFair, HyperBacks, CoverFair, CoverBacks}
use Rattle.claims.specs.Scans.{Marked}
use Rattle.claimed.specs.Targets.{AllBacked}
use Rattle.lists.proofs.Zeros.{zeros_at}
use Rattle.support.proofs.Edgewise.{edgewise_accepted, accepted_edgewise, supported_bound}

-- and that of stored numbers is the order of values, where none is cut off
stored-⊑ : (a b : Value) {m : ℕ} → stored a ≤ stored b → b ≼ m → m < infinite → a ⊑ b
unfolding stored
stored-⊑ (fin a) (fin b) h p l = let q = ≼-fin p in fin-⊑-fin (omega arith)
stored-⊑ inf (fin b) h p l = let q = ≼-fin p in absurd (omega arith)
stored-⊑ a inf h p l = ≼-inf p

-- the largest weight that 4 bytes say
abbrev pub heavy : ℕ
heavy = 4294967295

-- no weight of a message is above it
pub message_light : (s : List ℕ) (n h c : ℕ) → Bytes s → Light (decoded s n h c) heavy
unfolding decoded
message_light s n h c bytes = record {
  weight = λ {h = e} {t} m k.
      let (i, l, q) = ∈-items (hyper_layout s n) h graph_header m in
      let at = end (hyper_layout s n) i graph_header in
      let k' = subst (λ (e : Hyper). t ∈ e.targets) q k in
      let (j, o, z) = ∈-items (target_layout s n) (number 2 s (at + target_count_at)) (at + hyper_width) k' in
      let p = end (target_layout s n) j (at + hyper_width) in
      let w : t.weight ≡ number 4 s p = ap (λ (t : Target). t.weight) z in
      omega (arith, number_below 4 s p bytes);
}

-- nothing is marked at first
pub unmarked_none : (k v : ℕ) → ¬ (get_or {A = ℕ} (replicate k 0) v 0 ≡ 1)
unmarked_none k v e = omega (arith, zeros_at k v)

module _ (g : Graph) (closed : Closed g) (x : Assignment) (rank : ℕ → ℕ) where
  -- where they are accepted all edges are fair
  pub hypers_fair : Accepts g x rank → (h : Hyper) → h ∈ g.hypers → HyperFair x h
  hypers_fair ok h m = ⊑-stored (x h.source) (worst x h.targets) ((accepted_edgewise closed ok).hyper m)

  pub covers_fair : Accepts g x rank → (c : Cover) → c ∈ g.covers → CoverFair x c
  covers_fair ok c m = (accepted_edgewise closed ok).cover m

  module _ {b₀ b₁ b₂ : List ℕ} (hypers : Marked g.hypers (λ (h : Hyper). h.source) (HyperFair x) (HyperBacks x rank) b₀ b₁)
      (covers : Marked g.covers (λ (c : Cover). c.source) (CoverFair x) (CoverBacks x rank) b₁ b₂) where
    -- a node that has a support is marked
    support_marked : (v : ℕ) → finite (x v) ≡ true → Support g x rank v → get_or b₂ v 0 ≡ 1
    support_marked v f (by_hyper h m s e lower) =
        covers.stays v (rw s at (hypers.marked h m
        (record { settled = rw s f; exact = rw s e; lower = λ t n. subst (λ (u : ℕ). rank t.node < rank u) (sym s) (lower t n) })))
    support_marked v f (by_cover c m s e lower) =
        rw s at (covers.marked c m (record { holds = e; zero = covers.fair c m e; lower = subst (λ (u : ℕ). rank c.target < rank u) (sym s) lower }))

    pub unmarked : ¬ AllBacked g.nodes x b₂ → ¬ Accepts g x rank
    unmarked none ok = none (λ v l f. support_marked v f (ok.supported v l f))

    module _ (bare : (v : ℕ) → ¬ (get_or b₀ v 0 ≡ 1)) (few : g.nodes ≤ 4096) (light : Light g heavy) (all : AllBacked g.nodes x b₂) where
      -- a node that is marked has a support
      marked_support : (v : ℕ) → get_or b₂ v 0 ≡ 1 → Support g x rank v
      marked_support v e = over (covers.only v e)
        where
          along : (get_or b₀ v 0 ≡ 1) ⊎ ((h : Hyper) × (h ∈ g.hypers) × (h.source ≡ v) × HyperBacks x rank h) → Support g x rank v
          along (inl q) = absurd (bare v q)
          along (inr (h, m, s, k)) = by_hyper h m s (rw s at k.exact) (λ t n. subst (λ (u : ℕ). rank t.node < rank u) s (k.lower t n))

          over : (get_or b₁ v 0 ≡ 1) ⊎ ((c : Cover) × (c ∈ g.covers) × (c.source ≡ v) × CoverBacks x rank c) → Support g x rank v
          over (inl q) = along (hypers.only v q)
          over (inr (c, m, s, k)) = by_cover c m s k.holds (subst (λ (u : ℕ). rank c.target < rank u) s k.lower)

      supported : (v : ℕ) → v < g.nodes → finite (x v) ≡ true → Support g x rank v
      supported v l f = marked_support v (all v l f)

      -- so no sum reaches the number that stores infinity
      small : (h : Hyper) {k : ℕ} → h ∈ g.hypers → worst x h.targets ≼ k → worst x h.targets ≼ ((g.nodes - 1) * heavy + heavy)
      small h m p = worst-≼ x h.targets λ t n.
          let q = ≼-plus t.weight (x t.node) (≼-worst x h.targets p t n) in
          let b = supported_bound g closed heavy light x rank (λ c m. covers.fair c m) supported t.node (closed.hyper m n) (≼-finite q.1) in
          let w = light.weight m n in
          plus-≼ t.weight (x t.node) b (omega arith)

      pub all_marked : Accepts g x rank
      all_marked = edgewise_accepted (record {
        hyper = λ m. record { carries = λ p. (stored-⊑ _ _ (hypers.fair _ m) (small _ m p) (omega arith)).carries p };
        cover = λ m e. covers.fair _ m e;
        supported = supported;
      })
