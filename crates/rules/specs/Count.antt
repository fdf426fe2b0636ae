-- The count of a graph: the first i whose round equals round i + 1.
use Rattle.std.specs.Prelude.{ℕ, suc, ◌*◌, ◌+◌, ◌<◌, Bool, length}
use Rattle.lists.specs.Lists.{all, up_to, first_from}
use Rattle.value.specs.Value.{same}
use Rattle.rules.specs.Graph.{Graph}
use Rattle.rules.specs.Rounds.{rounds, Settled}

-- the test whether round i equals round i + 1
unfoldable pub unchanged : Graph → ℕ → Bool
unchanged g i = all (λ v. same (rounds g (suc i) v) (rounds g i v)) (up_to g.nodes)

-- how far the count is looked for: n (c + 1) is far enough for every graph (`count-first`)
abbrev pub search_end : Graph → ℕ
search_end g = g.nodes * (length g.covers + 1)

unfoldable pub count : Graph → ℕ
count g = first_from (unchanged g) (search_end g) 0

-- i is the first round that the next leaves unchanged
pub record First (g : Graph) (i : ℕ) : Type 0 where
  pub settled : Settled g i
  pub before : (j : ℕ) → j < i → ¬ Settled g j
