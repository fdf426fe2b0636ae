-- What the writer begins with: claims before any rank.
use Rattle.std.specs.Prelude.{ℕ, ◌*◌, ◌<◌, List, ◌≡◌, length, drop, get_or}
use Rattle.wire.specs.Bytes.{number}
use Rattle.wire.specs.Field.{long_width}
use Rattle.support.specs.Claims.{claim_width, claimed_rank}
use Rattle.ranking.specs.Ranking.{unranked}

-- the claims of the first k nodes hold the numbers of the words, and no rank; the bytes behind them stay
pub record Begun (k : ℕ) (words b₀ b : List ℕ) : Type 0 where
  pub same_length : length b ≡ length b₀
  pub values : (v : ℕ) → v < k → number long_width b (v * claim_width) ≡ get_or words v 0
  pub ranks : (v : ℕ) → v < k → claimed_rank b v ≡ unranked
  pub past : drop (k * claim_width) b ≡ drop (k * claim_width) b₀
