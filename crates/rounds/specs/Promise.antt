-- What the customer is promised of the rounds on a message, in the words of the demands.
use Rattle.std.specs.Prelude.{ℕ, suc, ◌+◌, ◌-◌, ◌*◌, ◌≤◌, ◌<◌, List, ◌≡◌, true, length}
use Rattle.refusal.specs.Number.{ok, over_budget}
use Rattle.value.specs.Value.{finite, ◌≼◌}
use Rattle.rules.specs.Graph.{Graph, heaviest}
use Rattle.rules.specs.Rounds.{rounds, Largest, Settled}
use Rattle.rules.specs.Count.{First}
use Rattle.rules.specs.Walks.{CoverCycle}
use Rattle.graph.specs.Stored.{StoredGraph, ruled}
use Rattle.graph.specs.WellFormed.{Accepted}
use Rattle.halves.specs.Held.{held}
use Rattle.wire.specs.Read.{Read}
use Rattle.turns.specs.Outcome.{rounds_number, rounds_count}
use Rattle.turns.specs.declared.Outcome.{Outcome}

-- the first n numbers are round i, the next n are round i + 1, and no finite number of the two is above (n - 1) w
pub record Halves (graph : Graph) (i : ℕ) (room : List ℕ) : Type 0 where
  pub first_half : (v : ℕ) → v < graph.nodes → held room v ≡ rounds graph i v
  pub second_half : (v : ℕ) → v < graph.nodes → held room (graph.nodes + v) ≡ rounds graph (suc i) v
  pub small : (v : ℕ) → v < graph.nodes + graph.nodes → finite (held room v) ≡ true → held room v ≼ ((graph.nodes - 1) * heaviest graph.hypers)

-- the rounds on a graph settled
pub record SettledAt (graph : Graph) (budget : ℕ) (room : List ℕ) (reported : ℕ) : Type 0 where
  pub halves : Halves graph reported room
  -- the reported count is the first round that the next leaves unchanged
  pub first : First graph reported
  -- the budget allows it
  pub within : reported ≤ budget
  -- it is at most n (c + 1), and at most n where no cycle passes through a cover edge
  pub soon : reported ≤ graph.nodes * (length graph.covers + 1)
  pub sooner : ¬ CoverCycle graph → reported ≤ graph.nodes
  -- the first n numbers are the largest assignment that obeys the rules
  pub largest : Largest graph (held room)

-- the budget is spent: it is the reported count, and the first round that the next leaves unchanged comes later
pub record SpentAt (graph : Graph) (budget : ℕ) (room : List ℕ) (reported : ℕ) : Type 0 where
  pub halves : Halves graph reported room
  pub spent : reported ≡ budget
  pub later : (i : ℕ) → i ≤ budget → ¬ Settled graph i

-- by the number and the count that the paper gives the answer: OK, BUDGET, or a refusal, which has count 0 and leaves the room as it came
pub record Promise (message : List ℕ) (budget : ℕ) (before after : List ℕ) (answer : Read Outcome) : Type 0 where
  pub settled : rounds_number answer ≡ ok → (graph : StoredGraph) × Accepted message graph × SettledAt (ruled graph) budget after (rounds_count answer)
  pub spent : rounds_number answer ≡ over_budget → (graph : StoredGraph) × Accepted message graph × SpentAt (ruled graph) budget after (rounds_count answer)
  pub refused : over_budget < rounds_number answer → (rounds_count answer ≡ 0) × (after ≡ before)
