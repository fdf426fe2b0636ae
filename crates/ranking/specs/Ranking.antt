-- What the writer knows of ranks on its way: how they were given, and that the claims keep their values.
use Rattle.std.specs.Prelude.{ℕ, zero, suc, ◌+◌, ◌*◌, ◌≤◌, ◌<◌, List, ◌≡◌, length, drop}
use Rattle.lists.specs.Lists.{◌∈◌}
use Rattle.value.specs.Stored.{infinite}
use Rattle.wire.specs.Bytes.{put}
use Rattle.wire.specs.Field.{long_width}
use Rattle.support.specs.Claims.{rank_at, claim_width, claimed_value, claimed_rank}

-- the rank of a node that has none yet: every rank that is given is smaller
abbrev pub unranked : ℕ
unranked = infinite

-- the claims of n nodes became others by ranks alone
pub record Kept (n : ℕ) (b₀ b : List ℕ) : Type 0 where
  pub same_length : length b ≡ length b₀
  pub values : claimed_value b ≡ claimed_value b₀
  pub past : drop (n * claim_width) b ≡ drop (n * claim_width) b₀

module _ {A : Type 0} (edges : List A) (source : A → ℕ) (Backing : List ℕ → A → Type 0) (given₀ : ℕ) (b₀ : List ℕ) where
  -- one after another the sources of edges that back them are ranked; the next rank is larger than all before it
  pub data Ranks : ℕ → List ℕ → Type 0 where
    none : Ranks given₀ b₀
    more : {given : ℕ} {b : List ℕ} {e : A} → Ranks given b → e ∈ edges → claimed_rank b (source e) ≡ unranked → Backing b e
        → Ranks (given + 1) (put b (source e * claim_width + rank_at) long_width given)

  -- at most one for each edge; and where none was ranked, every source that an edge backs had a rank
  pub record RankedBy (given : ℕ) (b : List ℕ) : Type 0 where
    pub steps : Ranks given b
    pub few : given ≤ given₀ + length edges
    pub stable : given ≡ given₀ → (e : A) → e ∈ edges → Backing b₀ e → claimed_rank b₀ (source e) < unranked

-- so many edges from a position, one after another: the next rank is given to the source of each that backs it and has none
pub data Passed (source next : ℕ → ℕ) (Backing : List ℕ → ℕ → Type 0) : (left at given : ℕ) → List ℕ → (given' : ℕ) → List ℕ → Type 0 where
  over : {at given : ℕ} {b : List ℕ} → Passed source next Backing zero at given b given b
  gives : {left at given given' : ℕ} {b b' : List ℕ} → claimed_rank b (source at) ≡ unranked → Backing b at
      → Passed source next Backing left (next at) (given + 1) (put b (source at * claim_width + rank_at) long_width given) given' b'
      → Passed source next Backing (suc left) at given b given' b'
  had : {left at given given' : ℕ} {b b' : List ℕ} → claimed_rank b (source at) < unranked
      → Passed source next Backing left (next at) given b given' b' → Passed source next Backing (suc left) at given b given' b'
  idle : {left at given given' : ℕ} {b b' : List ℕ} → ¬ Backing b at
      → Passed source next Backing left (next at) given b given' b' → Passed source next Backing (suc left) at given b given' b'
