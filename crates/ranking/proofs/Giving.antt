-- Ranks given one after another: the claims keep their values, the ranks rest on smaller ones, and there are as many ranked nodes as were given
-- ranks. Assumes nothing.
use Prim.Native.Nat.{ℕ, zero, suc, ◌+◌, ◌-◌, ◌*◌, ◌≤◌, ◌<◌}
use mathlib.Core.Bool.{Bool, true}
use mathlib.Core.List.Memᴰ
use mathlib.Core.List.{List}
use mathlib.Core.Path.{◌≡◌, refl, sym, subst, ◌∙◌}
use lib.Dec.{ltb}
use lib.ListN.{length}
use borrow.Author.Tests.{ltb-true, lt-ltb, le-ltb}
use native.Mathlib.Decide.{ℕ_discrete, dec_lt}
use native.Mathlib.Nat.{le_refl, not-suc-le-zero}
use Rattle.std.proofs.Common.{sub-one}
use native.Mathlib.Omega.{arith}
use Rattle.lists.specs.Lists.{◌∈◌, up_to}
use Rattle.lists.proofs.Lists.{how_many, how_many_le, how_many_more, up_to_length, up_to-∈}
use Rattle.lists.proofs.Tests.{by_test}
use Rattle.value.specs.Value.{finite}
use Rattle.wire.specs.Bytes.{put}
use Rattle.wire.specs.Field.{long_width}
use Rattle.wire.specs.Layout.{Layout, items}
use Rattle.wire.proofs.Layouts.{items_length}
use Rattle.rules.specs.Graph.{Graph, Hyper, Cover, Closed}
use Rattle.rules.specs.Rounds.{Assignment, Obeys}
use Rattle.support.specs.Claims.{rank_at, claim_width, claimed_value, claimed_rank, Supported, Support, by_hyper, by_cover}
use Rattle.support.specs.Backing.{HyperBacks, CoverBacks}
use Rattle.ranking.specs.Ranking.{unranked, Kept, Ranks, none, more, RankedBy, Passed, over, gives, had, idle}
use Rattle.support.proofs.Edgewise.{holds_zero}
use Rattle.ranking.proofs.Puts.{put_length, put_past, rank_fits, rank_here, rank_other, rank_values}
use Rattle.ranking.proofs.Ranks.{Ranked, ranked_more}

-- claims that are kept, one after another
pub kept_same : {n : ℕ} {b : List ℕ} → Kept n b b
kept_same = record { same_length = refl; values = refl; past = refl }

pub kept_then : {n : ℕ} {b₀ b₁ b₂ : List ℕ} → Kept n b₀ b₁ → Kept n b₁ b₂ → Kept n b₀ b₂
kept_then j k = record { same_length = k.same_length ∙ j.same_length; values = k.values ∙ j.values; past = k.past ∙ j.past }

-- a node is ranked
abbrev pub is_ranked : List ℕ → ℕ → Bool
is_ranked b v = ltb (claimed_rank b v) unranked

-- how many of n nodes are
abbrev pub many_ranked : ℕ → List ℕ → ℕ
many_ranked n b = how_many (is_ranked b) (up_to n)

pub ranked_few : (n : ℕ) (b : List ℕ) → many_ranked n b ≤ n
ranked_few n b = omega (arith, how_many_le (is_ranked b) (up_to n), up_to_length n)

-- where as many are as there are, all are
pub ranked_all : (n : ℕ) (b : List ℕ) → n ≤ many_ranked n b → (v : ℕ) → v < n → claimed_rank b v < unranked
ranked_all n b h v l =
    by_test (is_ranked b v) (ltb-true _ _) λ e.
    let a = how_many_more (is_ranked b) (λ u. true) (up_to n) (λ u m t. refl) v (up_to-∈ n l) e refl in
    let k = how_many_le (λ u. true) (up_to n) in
    absurd (omega (arith, up_to_length n))

module _ {A : Type 0} {edges : List A} {source : A → ℕ} {Backing : List ℕ → A → Type 0} {given₀ : ℕ} {b₀ : List ℕ} where
  -- ranks are only given
  pub steps_grow : {given : ℕ} {b : List ℕ} → Ranks edges source Backing given₀ b₀ given b → given₀ ≤ given
  steps_grow none = le_refl given₀
  steps_grow (more r m u k) = let h = steps_grow r in omega arith

  -- and where none was, nothing changed
  pub steps_none : {given : ℕ} {b : List ℕ} → Ranks edges source Backing given₀ b₀ given b → given ≡ given₀ → b ≡ b₀
  steps_none none e = refl
  steps_none (more r m u k) e = absurd (omega (arith, steps_grow r))

  module _ (n : ℕ) (named : (e : A) → e ∈ edges → source e < n) (long : n * claim_width ≤ length b₀) where
    pub steps_kept : {given : ℕ} {b : List ℕ} → Ranks edges source Backing given₀ b₀ given b → Kept n b₀ b
    steps_kept none = kept_same
    steps_kept (more {given} {b} {e} r m u k) =
        let j = steps_kept r in
        let l = named e m in
        let fits : n * claim_width ≤ length b = omega (arith, j.same_length) in
        let inside = rank_fits n b (source e) given l fits in
        kept_then j (record {
          same_length = put_length b (source e * claim_width + rank_at) long_width given inside;
          values = rank_values n b (source e) given l fits;
          past = put_past b (source e * claim_width + rank_at) long_width given inside (n * claim_width) (omega arith);
        })

    steps_long : {given : ℕ} {b : List ℕ} → Ranks edges source Backing given₀ b₀ given b → n * claim_width ≤ length b
    steps_long r = omega (arith, (steps_kept r).same_length)

    -- one more node is ranked with each
    pub steps_count : {given : ℕ} {b : List ℕ} → Ranks edges source Backing given₀ b₀ given b → given < unranked
        → given + many_ranked n b₀ ≤ given₀ + many_ranked n b
    steps_count none h = le_refl (given₀ + many_ranked n b₀)
    steps_count (more {given} {b} {e} r m u k) h =
        let before = steps_count r (omega arith) in
        let l = named e m in
        let fits = steps_long r in
        let b' = put b (source e * claim_width + rank_at) long_width given in
        let one = how_many_more (is_ranked b) (is_ranked b') (up_to n)
        (λ v o t. stays b (source e) given l fits (omega arith) v t) (source e) (up_to-∈ n l)
        (le-ltb (claimed_rank b (source e)) unranked (omega arith))
        (rw (rank_here n b (source e) given l fits (omega arith)) (lt-ltb given unranked (omega arith))) in
        omega arith
      where
        stays : (b : List ℕ) (v r : ℕ) → v < n → n * claim_width ≤ length b → r < unranked → (w : ℕ) → is_ranked b w ≡ true
            → is_ranked (put b (v * claim_width + rank_at) long_width r) w ≡ true
        stays b v r l fits small w t = go (ℕ_discrete w v)
          where
            go : Dec (w ≡ v) → is_ranked (put b (v * claim_width + rank_at) long_width r) w ≡ true
            go (yes e) = rw (e, rank_here n b v r l fits (omega arith)) (lt-ltb r unranked small)
            go (no e) = rw (rank_other n b v r l fits w e) t

    -- and rests on smaller ranks
    pub steps_ranked : {g : Graph} → Closed g → {x : Assignment} → ((b : List ℕ) (e : A) → e ∈ edges → claimed_value b ≡ x → Backing b e → Support g x (claimed_rank b) (source e))
        → claimed_value b₀ ≡ x → Ranked g x given₀ (claimed_rank b₀) → {given : ℕ} {b : List ℕ} → Ranks edges source Backing given₀ b₀ given b → given < unranked
        → Ranked g x given (claimed_rank b)
    steps_ranked closed support is first none h = first
    steps_ranked closed support is first (more {given} {b} {e} r m u k) h =
        let l = named e m in
        let fits = steps_long r in
        ranked_more closed (steps_ranked closed support is first r (omega arith)) (source e) u (support b e m ((steps_kept r).values ∙ is) k) (omega arith)
        (rank_here n b (source e) given l fits (omega arith)) (rank_other n b (source e) given l fits)

-- an edge that backs its source supports it
pub hyper_support : {g : Graph} {x : Assignment} (b : List ℕ) (h : Hyper) → h ∈ g.hypers → claimed_value b ≡ x
    → HyperBacks (claimed_value b) (claimed_rank b) h → Support g x (claimed_rank b) h.source
hyper_support {g} b h m is k = subst (λ (x : Assignment). Support g x (claimed_rank b) h.source) is (by_hyper h m refl k.exact k.lower)

pub cover_support : {g : Graph} {x : Assignment} (b : List ℕ) (c : Cover) → c ∈ g.covers → claimed_value b ≡ x
    → CoverBacks (claimed_value b) (claimed_rank b) c → Support g x (claimed_rank b) c.source
cover_support {g} b c m is k = subst (λ (x : Assignment). Support g x (claimed_rank b) c.source) is (by_cover c m refl k.holds k.lower)

-- where every source that an edge backs is ranked, no node is left to be ranked
pub stable_all : {g : Graph} → Closed g → (b : List ℕ) → Obeys g (claimed_value b)
    → ((h : Hyper) → h ∈ g.hypers → HyperBacks (claimed_value b) (claimed_rank b) h → claimed_rank b h.source < unranked)
    → ((c : Cover) → c ∈ g.covers → CoverBacks (claimed_value b) (claimed_rank b) c → claimed_rank b c.source < unranked)
    → (v : ℕ) → v < g.nodes → finite (claimed_value b v) ≡ true → Supported g (claimed_value b) (λ u. claimed_rank b u < unranked) v → claimed_rank b v < unranked
stable_all {g} closed b obeys hypers covers v l f support = go support (dec_lt (claimed_rank b v) unranked)
  where
    go : Supported g (claimed_value b) (λ u. claimed_rank b u < unranked) v → Dec (claimed_rank b v < unranked) → claimed_rank b v < unranked
    go s (yes h) = h
    go (by_hyper h m s e q) (no bare) = rw s at (hypers h m (record {
      settled = rw s f;
      exact = rw s e;
      lower = λ t n. rw s (let a = q t n in omega arith);
    }))
    go (by_cover c m s e q) (no bare) = rw s at (covers c m (record { holds = e; zero = holds_zero closed obeys m e; lower = rw s (omega arith) }))

-- ---- a walk over edges that gives ranks

module _ {source next : ℕ → ℕ} {Backing : List ℕ → ℕ → Type 0} where
  -- one edge more in front of others: its source is ranked, or has a rank, or isn't backed by it; or none is left
  pub passed_gives : (left : ℕ) {at given given' : ℕ} {b b' : List ℕ} → 0 < left → claimed_rank b (source at) ≡ unranked → Backing b at
      → Passed source next Backing (left - 1) (next at) (given + 1) (put b (source at * claim_width + rank_at) long_width given) given' b'
      → Passed source next Backing left at given b given' b'
  passed_gives zero h bare backs p = absurd (not-suc-le-zero h)
  passed_gives (suc left) h bare backs p = gives bare backs (rw sub-one at p)

  pub passed_had : (left : ℕ) {at given given' : ℕ} {b b' : List ℕ} → 0 < left → claimed_rank b (source at) < unranked
      → Passed source next Backing (left - 1) (next at) given b given' b' → Passed source next Backing left at given b given' b'
  passed_had zero h ranked p = absurd (not-suc-le-zero h)
  passed_had (suc left) h ranked p = had ranked (rw sub-one at p)

  pub passed_idle : (left : ℕ) {at given given' : ℕ} {b b' : List ℕ} → 0 < left → ¬ Backing b at
      → Passed source next Backing (left - 1) (next at) given b given' b' → Passed source next Backing left at given b given' b'
  passed_idle zero h not p = absurd (not-suc-le-zero h)
  passed_idle (suc left) h not p = idle not (rw sub-one at p)

  pub passed_over : (left : ℕ) {at given : ℕ} {b : List ℕ} → left ≡ 0 → Passed source next Backing left at given b given b
  passed_over left {at} {given} {b} h = subst (λ (j : ℕ). Passed source next Backing j at given b given b) (sym h) over

-- the edges of a layout that were passed are those from which ranks were given
module _ {A : Type 0} (L : Layout A) (source : A → ℕ) (Backing : List ℕ → A → Type 0) (edges : List A) (given₀ : ℕ) (b₀ : List ℕ) where
  -- a layout's edges from a position, passed
  abbrev PassedAt : (left at given : ℕ) → List ℕ → (given' : ℕ) → List ℕ → Type 0
  PassedAt = Passed (λ p. source (L.item p)) L.next (λ b p. Backing b (L.item p))

  passed_steps : {left at given given' : ℕ} {b b' : List ℕ} → ((e : A) → e ∈ items L left at → e ∈ edges)
      → Ranks edges source Backing given₀ b₀ given b → PassedAt left at given b given' b' → Ranks edges source Backing given₀ b₀ given' b'
  unfolding items
  passed_steps among r over = r
  passed_steps among r (gives bare backs p) = passed_steps (λ e m. among e (Memᴰ.tail m)) (more r (among _ (Memᴰ.head refl)) bare backs) p
  passed_steps among r (had ranked p) = passed_steps (λ e m. among e (Memᴰ.tail m)) r p
  passed_steps among r (idle not p) = passed_steps (λ e m. among e (Memᴰ.tail m)) r p

  -- a rank for each at most
  passed_few : {left at given given' : ℕ} {b b' : List ℕ} → PassedAt left at given b given' b' → (given ≤ given') × (given' ≤ given + left)
  passed_few {given = given} over = (le_refl given, omega arith)
  passed_few (gives bare backs p) = let few = passed_few p in (omega arith, omega arith)
  passed_few (had ranked p) = let few = passed_few p in (omega arith, omega arith)
  passed_few (idle not p) = let few = passed_few p in (omega arith, omega arith)

  -- where none was given, each that backs its source had one
  passed_stable : {left at given given' : ℕ} {b b' : List ℕ} → PassedAt left at given b given' b' → given' ≡ given
      → (e : A) → e ∈ items L left at → Backing b e → claimed_rank b (source e) < unranked
  unfolding items
  passed_stable over q e m k = elim m [ ]
  passed_stable (gives bare backs p) q e m k = absurd (omega (arith, (passed_few p).0))
  passed_stable {b = b} (had ranked p) q e (Memᴰ.head is) k = rw is ranked
  passed_stable (had ranked p) q e (Memᴰ.tail m) k = passed_stable p q e m k
  passed_stable {b = b} (idle not p) q e (Memᴰ.head is) k = absurd (not (subst (Backing b) is k))
  passed_stable (idle not p) q e (Memᴰ.tail m) k = passed_stable p q e m k

module _ {A : Type 0} (L : Layout A) (source : A → ℕ) (Backing : List ℕ → A → Type 0) where
  pub passed_ranked : (k at : ℕ) {given given' : ℕ} {b b' : List ℕ} → PassedAt L source Backing (items L k at) given b k at given b given' b'
      → RankedBy (items L k at) source Backing given b given' b'
  passed_ranked k at {given} {b = b} p = record {
    steps = passed_steps L source Backing (items L k at) given b (λ e m. m) none p;
    few = omega (arith, (passed_few L source Backing (items L k at) given b p).1, items_length L k at);
    stable = λ q e m back. passed_stable L source Backing (items L k at) given b p q e m back;
  }
