-- The passes that rank: where they stand, and that they end with ranks that are accepted. Assumes nothing.
use Prim.Native.Nat.{ℕ, ◌+◌, ◌*◌, ◌≤◌, ◌<◌}
use mathlib.Core.Bool.{true}
use mathlib.Core.List.{List}
use mathlib.Core.Path.{◌≡◌, sym, subst, ◌∙◌}
use lib.ListN.{length}
use native.Mathlib.Omega.{arith}
use Rattle.lists.specs.Lists.{◌∈◌}
use Rattle.value.specs.Value.{finite}
use Rattle.rules.specs.Graph.{Graph, Hyper, Cover, Closed}
use Rattle.rules.specs.Rounds.{Assignment, rounds, Agree, Obeys}
use Rattle.rules.specs.Count.{count}
use Rattle.rules.specs.Walks.{CoverCycle}
use Rattle.rules.proofs.Cycles.{free_layered}
use Rattle.support.specs.Claims.{claim_width, claimed_value, claimed_rank, Supported, Support, Accepts, AcceptsClaims}
use Rattle.support.specs.Backing.{HyperBacks, CoverBacks}
use Rattle.ranking.specs.Ranking.{unranked, Kept, RankedBy}
use Rattle.ranking.proofs.Ranks.{Ranked, ranked_none, settled_obeys, stable_accepts, all_accepts}
use Rattle.ranking.proofs.Giving.{kept_same, kept_then, many_ranked, ranked_all, steps_grow, steps_none, steps_kept, steps_count, steps_ranked, hyper_support, cover_support, stable_all}

-- the claims b₀ keep their values, so many ranks were given, and at least as many nodes are ranked
pub record Standing (g : Graph) (b₀ : List ℕ) (given : ℕ) (b : List ℕ) : Type 0 where
  pub kept : Kept g.nodes b₀ b
  pub ranked : Ranked g (claimed_value b₀) given (claimed_rank b)
  pub counted : given ≤ many_ranked g.nodes b

pub standing_none : (g : Graph) (b : List ℕ) → ((v : ℕ) → v < g.nodes → claimed_rank b v ≡ unranked) → Standing g b 0 b
standing_none g b bare = record { kept = kept_same; ranked = ranked_none g (claimed_value b) (claimed_rank b) bare; counted = omega arith }

module _ (g : Graph) (closed : Closed g) {b₀ : List ℕ} (long : g.nodes * claim_width ≤ length b₀) where
  -- a pass over edges that are the graph's
  standing_more : {A : Type 0} {edges : List A} {source : A → ℕ} {Backing : List ℕ → A → Type 0} {given next : ℕ} {b b' : List ℕ}
      → ((e : A) → e ∈ edges → source e < g.nodes)
      → ((b : List ℕ) (e : A) → e ∈ edges → claimed_value b ≡ claimed_value b₀ → Backing b e → Support g (claimed_value b₀) (claimed_rank b) (source e))
      → Standing g b₀ given b → RankedBy edges source Backing given b next b' → given + length edges < unranked → Standing g b₀ next b'
  standing_more {next = next} {b} named support k r small =
      let fits : g.nodes * claim_width ≤ length b = omega (arith, k.kept.same_length) in
      let below : next < unranked = omega (arith, r.few) in
      record {
        kept = kept_then k.kept (steps_kept g.nodes named fits r.steps);
        ranked = steps_ranked g.nodes named fits closed support k.kept.values k.ranked r.steps below;
        counted = omega (arith, steps_count g.nodes named fits r.steps below, k.counted);
      }

  pub standing_hypers : {given next : ℕ} {b b' : List ℕ} → Standing g b₀ given b
      → RankedBy g.hypers (λ (h : Hyper). h.source) (λ b. HyperBacks (claimed_value b) (claimed_rank b)) given b next b' → given + length g.hypers < unranked → Standing g b₀ next b'
  standing_hypers k r small = standing_more (λ h m. closed.hyper_source m) hyper_support k r small

  pub standing_covers : {given next : ℕ} {b b' : List ℕ} → Standing g b₀ given b
      → RankedBy g.covers (λ (c : Cover). c.source) (λ b. CoverBacks (claimed_value b) (claimed_rank b)) given b next b' → given + length g.covers < unranked → Standing g b₀ next b'
  standing_covers k r small = standing_more (λ c m. closed.cover_source m) cover_support k r small

  module _ (agree : Agree g (claimed_value b₀) (rounds g (count g))) where
    -- n ranks were given
    pub all_ranked : {given : ℕ} {b : List ℕ} → Standing g b₀ given b → g.nodes ≤ given → AcceptsClaims g b
    all_ranked {b = b} k h =
        subst (λ (x : Assignment). Accepts g x (claimed_rank b)) (sym k.kept.values)
        (all_accepts g closed agree k.ranked (ranked_all g.nodes b (omega (arith, k.counted))))

    -- no rank was given in a pass
    pub none_ranked : ¬ CoverCycle g → {given middle next : ℕ} {b b₁ b₂ : List ℕ} → Standing g b₀ next b₂
        → RankedBy g.hypers (λ (h : Hyper). h.source) (λ b. HyperBacks (claimed_value b) (claimed_rank b)) given b middle b₁
        → RankedBy g.covers (λ (c : Cover). c.source) (λ b. CoverBacks (claimed_value b) (claimed_rank b)) middle b₁ next b₂ → next ≡ given → AcceptsClaims g b₂
    none_ranked free {given} {middle} {next} {b} {b₁} {b₂} k hypers covers e =
        let first : middle ≡ given = omega (arith, steps_grow hypers.steps, steps_grow covers.steps) in
        let second : next ≡ middle = omega (arith, steps_grow hypers.steps, steps_grow covers.steps) in
        let last = steps_none covers.steps second in
        let same = last ∙ steps_none hypers.steps first in
        let obeys = subst (Obeys g) (sym k.kept.values) (settled_obeys g closed agree) in
        let stable = stable_all closed b₂ obeys
        (subst (λ (x : List ℕ). (h : Hyper) → h ∈ g.hypers → HyperBacks (claimed_value x) (claimed_rank x) h → claimed_rank x h.source < unranked) (sym same) (hypers.stable first))
        (subst (λ (x : List ℕ). (c : Cover) → c ∈ g.covers → CoverBacks (claimed_value x) (claimed_rank x) c → claimed_rank x c.source < unranked) (sym last) (covers.stable second)) in
        subst (λ (x : Assignment). Accepts g x (claimed_rank b₂)) (sym k.kept.values)
        (stable_accepts g closed agree (free_layered g closed free) k.ranked
        (subst (λ (x : Assignment). (v : ℕ) → v < g.nodes → finite (x v) ≡ true → Supported g x (λ u. claimed_rank b₂ u < unranked) v → claimed_rank b₂ v < unranked) k.kept.values stable))
