-- The halves of a room: n numbers of a round, n of the next, and what stays.
use Rattle.std.specs.Prelude.{ℕ, ◌+◌, ◌<◌, ◌≤◌, List, ◌≡◌, length, get_or, take, drop}
use Rattle.value.specs.Stored.{infinite}

-- the n numbers of a half
abbrev pub half : (n from : ℕ) → List ℕ → List ℕ
half n from b = take n (drop from b)

-- the first i numbers are infinity, and all from i on stays
pub record Cleared (i : ℕ) (b₀ b : List ℕ) : Type 0 where
  pub same_length : length b ≡ length b₀
  pub cleared : (v : ℕ) → v < i → get_or b v 0 ≡ infinite
  pub rest : drop i b ≡ drop i b₀

-- the first i numbers are brought up to the next round
pub record Raised (n i : ℕ) (b₀ b : List ℕ) : Type 0 where
  pub same_length : length b ≡ length b₀
  pub done : (v : ℕ) → v < i → get_or b v 0 ≡ get_or b₀ (n + v) 0
  pub stays : (v : ℕ) → i ≤ v → get_or b v 0 ≡ get_or b₀ v 0
  pub past : drop (n + n) b ≡ drop (n + n) b₀

-- the k numbers at a position are the same in both halves
abbrev pub Alike : (n at k : ℕ) → List ℕ → Type 0
Alike n at k b = (v : ℕ) → v < k → get_or b (at + v) 0 ≡ get_or b (n + (at + v)) 0

-- the numbers from a node to before another are the same in both halves
abbrev pub Level : (n from to : ℕ) → List ℕ → Type 0
Level n from to b = (v : ℕ) → from ≤ v → v < to → get_or b v 0 ≡ get_or b (n + v) 0

-- both halves are the same: the next round is this one
abbrev pub Same : ℕ → List ℕ → Type 0
Same n b = (v : ℕ) → v < n → get_or b v 0 ≡ get_or b (n + v) 0

-- outside of the nodes from lo to before hi both halves are the same
pub record Beside (n lo hi : ℕ) (b : List ℕ) : Type 0 where
  pub before : (v : ℕ) → v < lo → v < n → get_or b v 0 ≡ get_or b (n + v) 0
  pub behind : (v : ℕ) → hi ≤ v → v < n → get_or b v 0 ≡ get_or b (n + v) 0
