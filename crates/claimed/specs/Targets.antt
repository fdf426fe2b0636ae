-- What is claimed of targets that are judged one by one, and of all nodes.
use Rattle.std.specs.Prelude.{◌≡◌, ℕ, ◌+◌, ◌*◌, ◌<◌, ◌≤◌, Bool, true, false, List, length, slice_index, Option, None, Some}
use Rattle.lists.specs.Lists.{◌∈◌}
use Rattle.value.specs.Value.{finite}
use Rattle.wire.specs.Layout.{Layout, Sound}
use Rattle.rules.specs.Graph.{Target}
use Rattle.rules.specs.Rounds.{Assignment}
use Rattle.graph.specs.Format.{target_width}
use Rattle.support.specs.Claims.{claimed_rank}
use Rattle.claimed.specs.declared.Given.{Given}

-- the bytes from a position to an end are those of some targets
pub record Parted (s : List ℕ) (at end : ℕ) : Type 0 where
  pub inside : end ≤ length s
  pub count : ℕ
  pub whole : at + count * target_width ≡ end

-- what was found of k targets at a position that give so much: one is not sound, or all are
abbrev pub Named : Layout Target → (k at gives end : ℕ) → Option Given → Type 0
Named L k at gives end None = ¬ Sound L k at
Named L k at gives end (Some g) = Sound L k at × (g.most ≡ gives) × (g.end ≡ end)

-- whether all targets have a rank below one
abbrev pub LowerRanks : (claims : List ℕ) → List Target → (rank : ℕ) → Bool → Type 0
LowerRanks claims ts rank r =
    (r ≡ true → (t : Target) → t ∈ ts → claimed_rank claims t.node < rank) × (r ≡ false → ¬ ((t : Target) → t ∈ ts → claimed_rank claims t.node < rank))

-- the nodes from one to before another are marked; and those of them that are finite
abbrev pub Marked : (from to : ℕ) → (marks : List ℕ) → Type 0
Marked from to marks = (v : ℕ) → v < to → from ≤ v → slice_index marks v ≡ 1

abbrev pub Backed : (from to : ℕ) → Assignment → (marks : List ℕ) → Type 0
Backed from to x marks = (v : ℕ) → v < to → from ≤ v → finite (x v) ≡ true → slice_index marks v ≡ 1

-- every finite node is marked
abbrev pub AllBacked : ℕ → Assignment → (marks : List ℕ) → Type 0
AllBacked n x marks = (v : ℕ) → v < n → finite (x v) ≡ true → slice_index marks v ≡ 1
