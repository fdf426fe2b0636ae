-- What the rounds on a message answer, and what they leave in the room.
use Rattle.std.specs.Prelude.{ℕ, zero, suc, ◌+◌, ◌≤◌, min, List, [], ◌∷◌, ◌++◌, cond, length, drop, leb}
use Rattle.std.proofs.Common.{arith}
use Rattle.refusal.specs.Number.{ok, over_budget, number_of, nowhere}
use Rattle.refusal.specs.declared.Refusal.TheVariants.{Room}
use Rattle.value.specs.Stored.{stored}
use Rattle.wire.specs.Read.{Read, Ok, Err, ◌>>=◌, ◌>>◌, demand}
use Rattle.rules.specs.Graph.{Graph}
use Rattle.rules.specs.Rounds.{Assignment, rounds}
use Rattle.rules.specs.Count.{count}
use Rattle.graph.specs.Stored.{StoredGraph, ruled}
use Rattle.graph.specs.Message.{read_graph}
use Rattle.turns.specs.declared.Outcome.{Outcome}
use Rattle.turns.specs.declared.Outcome.TheVariants.{Settled, Spent}

-- the paper's number of an outcome
abbrev pub outcome_number : Outcome → ℕ
outcome_number (Settled m) = ok
outcome_number (Spent m) = over_budget

-- the reported count
abbrev pub outcome_count : Outcome → ℕ
outcome_count (Settled m) = m
outcome_count (Spent m) = m

-- no refusal has the number of an outcome
pub outcome_within : (x : Outcome) → outcome_number x ≤ over_budget
outcome_within (Settled m) = omega arith
outcome_within (Spent m) = omega arith

-- the paper's number of an answer, by that of how it ended: OK or BUDGET; or the refusal's
abbrev pub ended_number : {A : Type 0} → (A → ℕ) → Read A → ℕ
ended_number number (Ok a) = number a
ended_number number (Err e) = number_of e.refusal

-- its reported count: any refusal but BUDGET has count 0
abbrev pub ended_count : {A : Type 0} → (A → ℕ) → Read A → ℕ
ended_count count (Ok a) = count a
ended_count count (Err e) = 0

-- the same of an answer whose rounds ended with an outcome
abbrev pub rounds_number : Read Outcome → ℕ
rounds_number = ended_number outcome_number

abbrev pub rounds_count : Read Outcome → ℕ
rounds_count = ended_count outcome_count

-- the stored values of the nodes below n
unfoldable pub stored_values : ℕ → Assignment → List ℕ
stored_values zero x = []
stored_values (suc n) x = stored_values n x ++ (stored (x n) ∷ [])

-- the first n numbers hold round m, the next n hold round m + 1, and the numbers beyond 2n stay
unfoldable pub filled : Graph → ℕ → List ℕ → List ℕ
filled g m room =
    stored_values g.nodes (rounds g m) ++ stored_values g.nodes (rounds g (suc m)) ++ drop (g.nodes + g.nodes) room

-- the graph, then the room of values: below 2n is ROOM
unfoldable pub read_rounds : (message room : List ℕ) → Read StoredGraph
read_rounds message room = do
  g ← read_graph message
  demand (leb ((ruled g).nodes + (ruled g).nodes) (length room)) Room nowhere
  Ok g

-- and only then BUDGET: exactly when the count is greater than the budget
unfoldable pub ended : Graph → (budget : ℕ) → Outcome
ended g budget = cond (leb (count g) budget) (Settled (count g)) (Spent budget)

unfoldable pub outcome_of : Read StoredGraph → (budget : ℕ) → Read Outcome
outcome_of (Ok g) budget = Ok (ended (ruled g) budget)
outcome_of (Err e) budget = Err e

-- with m the smaller of count and budget; a refusal leaves the room as it came
unfoldable pub rounds_room : Read StoredGraph → (budget : ℕ) → (room : List ℕ) → List ℕ
rounds_room (Ok g) budget room = filled (ruled g) (min (count (ruled g)) budget) room
rounds_room (Err e) budget room = room
