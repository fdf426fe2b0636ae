-- What the checker knows of the edges that it has scanned: all are fair to the claims, and which sources they back is marked.
use Rattle.std.specs.Prelude.{ℕ, List, Option, None, Some, ◌⊎◌, ◌≡◌, length, get_or}
use Rattle.lists.specs.Lists.{◌∈◌}
use Rattle.wire.specs.Read.{Ok}
use Rattle.wire.specs.Reader.{Reader, run}
use Rattle.wire.specs.Begin.{start}
use Rattle.wire.specs.Layout.{Layout, items}
use Rattle.wire.specs.declared.State.{State}

-- all edges were found fair, and the sources of those that back them are marked by 1, none other newly
pub record Marked {A : Type 0} (edges : List A) (source : A → ℕ) (Fair Backing : A → Type 0) (b₀ b : List ℕ) : Type 0 where
  pub same_length : length b ≡ length b₀
  pub fair : (e : A) → e ∈ edges → Fair e
  pub marked : (e : A) → e ∈ edges → Backing e → get_or b (source e) 0 ≡ 1
  pub stays : (v : ℕ) → get_or b₀ v 0 ≡ 1 → get_or b v 0 ≡ 1
  pub only : (v : ℕ) → get_or b v 0 ≡ 1 → (get_or b₀ v 0 ≡ 1) ⊎ ((e : A) × (e ∈ edges) × (source e ≡ v) × Backing e)

-- what a scan of the k edges at a position finds, where R reads them: a fault or one that is not fair; or none, and where they end
abbrev pub Scanned : {A : Type 0} → (R : Reader State A) → (L : Layout A) → (k at : ℕ) → (source : A → ℕ) → (Fair Backing : A → Type 0) → (b₀ b : List ℕ) → Option ℕ → Type 0
Scanned {A} R L k at source Fair Backing b₀ b None = (past : State) → run R k (start at) ≡ Ok past → ¬ ((e : A) → e ∈ items L k at → Fair e)
Scanned R L k at source Fair Backing b₀ b (Some p) = ((past : State) × (run R k (start at) ≡ Ok past) × (past.at ≡ p)) × Marked (items L k at) source Fair Backing b₀ b
