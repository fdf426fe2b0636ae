-- The room while the records of a round are taken in, and the part of the graph that they make.
use Rattle.std.specs.Prelude.{ℕ, ◌+◌, ◌<◌, min, List, ◌≡◌, length, get_or, set, drop}
use Rattle.value.specs.Stored.{stored}
use Rattle.wire.specs.Bytes.{number}
use Rattle.wire.specs.Layout.{items}
use Rattle.rules.specs.Graph.{Graph}
use Rattle.rules.specs.Rounds.{worst}
use Rattle.graph.specs.Format.{target_count_at, hyper_width}
use Rattle.graph.specs.Layouts.{target_layout, hyper_layout, cover_layout}
use Rattle.halves.specs.Held.{held}
use Rattle.halves.specs.Room.{half}

-- this round stands in the one half of the room, the next in the other
pub data Sides (n from to : ℕ) : Type 0 where
  forth : from ≡ 0 → to ≡ n → Sides n from to
  back : from ≡ n → to ≡ 0 → Sides n from to

-- the room with the next number of the source of the record at a position lowered to a number
abbrev pub lowered : List ℕ → (to at k : ℕ) → List ℕ → List ℕ
lowered s to at k b = let j = to + number 2 s at in set b j (min (get_or b j 0) k)

-- the room with the hyperedge at a position taken into the n numbers of the next round
abbrev pub hyper_in : List ℕ → (n from to at : ℕ) → List ℕ → List ℕ
hyper_in s n from to at b =
    lowered s to at (stored (worst (held (half n from b)) (items (target_layout s n) (number 2 s (at + target_count_at)) (at + hyper_width)))) b

-- b is b₀ but for the n numbers of the next round; what is left to do to each of those makes it what it is to be
pub record Going (n from to : ℕ) (b₀ b : List ℕ) (left : ℕ → ℕ → ℕ) (all : ℕ → ℕ) : Type 0 where
  pub same_length : length b ≡ length b₀
  pub this : half n from b ≡ half n from b₀
  pub past : drop (n + n) b ≡ drop (n + n) b₀
  pub each : (v : ℕ) → v < n → left v (get_or b (to + v) 0) ≡ all v

-- nothing is left to do
abbrev pub Done : (n from to : ℕ) → List ℕ → List ℕ → (ℕ → ℕ) → Type 0
Done n from to b₀ b all = Going n from to b₀ b (λ v a. a) all

-- the part of the graph with k hyperedges at a position, and c cover edges at another
unfoldable pub part_of : List ℕ → (n k at c middle : ℕ) → Graph
part_of s n k at c middle = record { nodes = n; hypers = items (hyper_layout s n) k at; covers = items (cover_layout s n) c middle }
