-- BUDGET has its number to itself: it is answered exactly where the message and the room are good and the count is greater than the budget.
-- Assumes nothing.
use Prim.Native.Nat.{ℕ, ◌<◌}
use mathlib.Core.List.{List}
use mathlib.Core.Bool.{Bool, true, false, cond}
use mathlib.Core.Logic.{◌↔◌}
use mathlib.Core.Path.{◌≡◌, refl}
use native.Mathlib.Omega.{arith}
use lib.Dec.{leb}
use borrow.Author.Tests.{leb-false, lt-leb}
use Rattle.refusal.specs.Number.{over_budget}
use Rattle.refusal.proofs.Numbers.{number_above}
use Rattle.wire.specs.Read.{Read, Ok, Err}
use Rattle.rules.specs.Count.{count}
use Rattle.graph.specs.Stored.{StoredGraph, ruled}
use Rattle.turns.specs.declared.Outcome.TheVariants as Outcome
use Rattle.turns.specs.Outcome.{outcome_number, rounds_number, read_rounds, ended, outcome_of}

pub rounds_budget : (s : List ℕ) (budget : ℕ) (room : List ℕ)
    → (rounds_number (outcome_of (read_rounds s room) budget) ≡ over_budget) ↔ ((g : StoredGraph) × (read_rounds s room ≡ Ok g) × (budget < count (ruled g)))
unfolding outcome_of ended
rounds_budget s budget room = (λ e. read (read_rounds s room) refl e, λ (g, is, x). rw (is, lt-leb (count g) budget x) refl)
  where
    on : (g : StoredGraph) (u : Bool) → leb (count g) budget ≡ u → outcome_number (cond u (Outcome.Settled (count g)) (Outcome.Spent budget)) ≡ over_budget
        → budget < count g
    on g true q e = absurd (omega arith)
    on g false q e = leb-false _ _ q

    read : (x : Read StoredGraph) → read_rounds s room ≡ x → rounds_number (outcome_of x budget) ≡ over_budget
        → (g : StoredGraph) × (read_rounds s room ≡ Ok g) × (budget < count g)
    read (Ok g) is e = (g, is, on g _ refl e)
    read (Err f) is e = absurd (omega (arith, number_above f.refusal))
