-- The nodes that a round changed, listed: those whose numbers differ in the halves.
use Rattle.std.specs.Prelude.{ℕ, zero, suc, ◌+◌, ◌<◌, ◌≤◌, cond, List, ◌≡◌, eqb, length, get_or}

-- no number of the next round is above that of this one
abbrev pub Fallen : ℕ → List ℕ → Type 0
Fallen n b = (v : ℕ) → v < n → get_or b (n + v) 0 ≤ get_or b v 0

-- how many of the first i nodes changed
unfoldable pub changes : ℕ → List ℕ → ℕ → ℕ
changes n b zero = 0
changes n b (suc i) = cond (eqb (get_or b i 0) (get_or b (n + i) 0)) 0 1 + changes n b i

-- so many of the first i nodes are listed, and every one that changed
pub record Listed (n i many : ℕ) (b nodes : List ℕ) : Type 0 where
  pub long : n ≤ length nodes
  pub fallen : Fallen n b
  pub few : many ≤ changes n b i
  pub named : (k : ℕ) → k < many → get_or nodes k 0 < n
  pub reach : (v : ℕ) → v < i → ¬ (get_or b v 0 ≡ get_or b (n + v) 0) → (k : ℕ) × (k < many) × (get_or nodes k 0 ≡ v)

-- a list of nodes and of no others, with every one that changed: what stands in front of a list, as many as are listed
pub record Names (n : ℕ) (b nodes : List ℕ) : Type 0 where
  pub named : (k : ℕ) → k < length nodes → get_or nodes k 0 < n
  pub reach : (v : ℕ) → v < n → ¬ (get_or b v 0 ≡ get_or b (n + v) 0) → (k : ℕ) × (k < length nodes) × (get_or nodes k 0 ≡ v)
