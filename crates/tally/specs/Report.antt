-- The numbers of the report.
use Rattle.std.specs.Prelude.{ℕ, ◌^◌, ◌<◌, List, [], ◌∷◌, ◌++◌, ◌≡◌, length}
use Rattle.lists.specs.Lists.{◌∈◌}
use Rattle.entries.specs.Entries.{places}
use Rattle.tally.specs.declared.Tally.{Tally}

-- the numbers of the report in its order: yes, no, every refusal number from 1 up, the sum, the largest
abbrev pub numbers_of : Tally → List ℕ
numbers_of t = t.counts ++ (t.sum ∷ t.largest ∷ [])

-- the numbers that a tally of the machine holds: 13 counts, and each number below 2 ^ 64
pub record Stored (t : Tally) : Type 0 where
  pub counts_are : length t.counts ≡ places
  pub below : (n : ℕ) → n ∈ numbers_of t → n < 2 ^ 64
