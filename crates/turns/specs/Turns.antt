-- Where a turn of the loop over rounds begins.
use Rattle.std.specs.Prelude.{ℕ, suc, ◌+◌, ◌<◌, ◌≤◌, List, ◌≡◌, length, get_or, drop}
use Rattle.value.specs.Stored.{stored}
use Rattle.rules.specs.Graph.{Graph}
use Rattle.rules.specs.Rounds.{rounds, Settled}

-- round i stands first, and the next behind it; no round before it was settled
pub record AtRound (g : Graph) (budget i : ℕ) (b₀ b : List ℕ) : Type 0 where
  pub within : i ≤ budget
  pub unsettled : (j : ℕ) → j < i → ¬ Settled g j
  pub same_length : length b ≡ length b₀
  pub this : (v : ℕ) → v < g.nodes → get_or b v 0 ≡ stored (rounds g i v)
  pub next : (v : ℕ) → v < g.nodes → get_or b (g.nodes + v) 0 ≡ stored (rounds g (suc i) v)
  pub past : drop (g.nodes + g.nodes) b ≡ drop (g.nodes + g.nodes) b₀
