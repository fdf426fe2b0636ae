-- What the library gives back of claims about a graph.
use Rattle.std.specs.Prelude.{Bool, true, false, ℕ, List, ◌≡◌}
use Rattle.refusal.specs.Number.{answer_number, answer_offset}
use Rattle.wire.specs.Read.{Read, Ok, Err}
use Rattle.graph.specs.Message.{read_graph}
use Rattle.claims.specs.Answers.{read_claims, Judges}
use Rattle.ranks.specs.Answers.{Writes}
use Rattle.claims.specs.Promise.{JudgedPromise}
use Rattle.ranks.specs.Promise.{WrittenPromise}

-- 0 none, 1 yes, 2 no
abbrev pub judged_verdict : Read Bool → ℕ
judged_verdict (Err e) = 0
judged_verdict (Ok true) = 1
judged_verdict (Ok false) = 2

-- the number, the verdict and the offset are those of the checker's answer
pub record JudgedBy (message claims : List ℕ) (number verdict offset : ℕ) : Type 0 where
  pub answer : Read Bool
  pub judges : Judges (read_claims message claims) claims answer
  pub promise : JudgedPromise message claims answer
  pub number_is : number ≡ answer_number answer
  pub verdict_is : verdict ≡ judged_verdict answer
  pub offset_is : offset ≡ answer_offset answer

-- the number, the offset and the rooms are those of the writer's answer
pub record WrittenBy (message claims words claims' words' : List ℕ) (number offset : ℕ) : Type 0 where
  pub answer : Read Unit
  pub writes : Writes (read_graph message) claims words claims' words' answer
  pub promise : WrittenPromise message claims words claims' words' answer
  pub number_is : number ≡ answer_number answer
  pub offset_is : offset ≡ answer_offset answer
