-- Laws of the rounds on a message: what count is reported, when BUDGET is given, and budgets that settle agree. Assumes nothing.
use Prim.Native.Nat.{ℕ, suc, ◌+◌, ◌<◌, ◌≤◌, min}
use mathlib.Core.List.{List, ◌++◌}
use mathlib.Core.Bool.{Bool, true, false, cond}
use mathlib.Core.Path.{◌≡◌, refl, sym, ap, ◌∙◌}
use lib.ListN.{take, length-append}
use lib.Seq.{take_at}
use lib.Dec.{leb}
use borrow.Author.Tests.{leb-true, leb-false, le-leb, lt-leb}
use native.Mathlib.Omega.{arith}
use Rattle.lists.proofs.Tests.{by}
use Rattle.wire.specs.Read.{Read, Ok, Err}
use Rattle.wire.proofs.Reading.{good_same}
use Rattle.rules.specs.Graph.{Graph}
use Rattle.rules.specs.Rounds.{rounds}
use Rattle.rules.specs.Count.{count}
use Rattle.graph.specs.Stored.{StoredGraph}
use Rattle.graph.specs.Message.{read_graph}
use Rattle.turns.specs.declared.Outcome.{Outcome}
use Rattle.turns.specs.declared.Outcome.TheVariants.{Settled, Spent}
use Rattle.turns.specs.Outcome.{outcome_count, stored_values, filled, read_rounds, ended, outcome_of, rounds_room}
use Rattle.rounds.proofs.Promised.{stored_length, rounds_read}

-- the reported count is the smaller of the budget and the first unchanged round
pub count_reported : (g : Graph) (budget : ℕ) → outcome_count (ended g budget) ≡ min (count g) budget
unfolding ended
count_reported g budget = go (leb (count g) budget) refl
  where
    go : (t : Bool) → leb (count g) budget ≡ t → outcome_count (cond t (Settled (count g)) (Spent budget)) ≡ min (count g) budget
    go true e = omega (arith, leb-true (count g) budget e)
    go false e = omega (arith, leb-false (count g) budget e)

-- BUDGET exactly when the count is above the budget
pub settled_within : (g : Graph) (budget : ℕ) → count g ≤ budget → ended g budget ≡ Settled (count g)
unfolding ended
settled_within g budget h = rw (le-leb (count g) budget h)

pub spent_above : (g : Graph) (budget : ℕ) → budget < count g → ended g budget ≡ Spent budget
unfolding ended
spent_above g budget h = rw (lt-leb (count g) budget h)

-- a settled outcome is that of a graph, at its count
pub record SettledOn (x : Read StoredGraph) (budget : ℕ) (b : List ℕ) (m : ℕ) : Type 0 where
  pub graph : StoredGraph
  pub reads : x ≡ Ok graph
  pub count_is : m ≡ count graph
  pub room : rounds_room x budget b ≡ filled graph m b

pub settled_on : (x : Read StoredGraph) (budget : ℕ) (b : List ℕ) (m : ℕ) → outcome_of x budget ≡ Ok (Settled m) → SettledOn x budget b m
unfolding outcome_of rounds_room ended
settled_on (Err e) budget b m h = absurd (cc)
settled_on (Ok g) budget b m h = go (leb (count g) budget) refl h
  where
    go : (u : Bool) → leb (count g) budget ≡ u → ◌≡◌ {A = Read Outcome} (Ok (cond u (Settled (count g)) (Spent budget))) (Ok (Settled m)) → SettledOn (Ok g) budget b m
    go true f z =
        let is : m ≡ count g = cc in
        let least : min (count g) budget ≡ m = omega (arith, leb-true (count g) budget f) in
        record { graph = g; reads = refl; count_is = is; room = rw least }
    go false f z = let one : ◌≡◌ {A = ℕ} 0 1 = cc in absurd (omega arith)

-- two budgets that settle give the same values and count, whatever the rooms
pub two_budgets : (s : List ℕ) (c d : ℕ) (b b' : List ℕ) (m k : ℕ) → outcome_of (read_rounds s b) c ≡ Ok (Settled m) → outcome_of (read_rounds s b') d ≡ Ok (Settled k)
    → (g : StoredGraph) → read_graph s ≡ Ok g
    → (m ≡ k) × (take (g.nodes + g.nodes) (rounds_room (read_rounds s b) c b) ≡ take (g.nodes + g.nodes) (rounds_room (read_rounds s b') d b'))
unfolding filled
two_budgets s c d b b' m k p q g e =
    let u = settled_on (read_rounds s b) c b m p in
    let w = settled_on (read_rounds s b') d b' k q in
    let gu : u.graph ≡ g = good_same (by (rounds_read s b _ u.reads).reads e) in
    let gw : w.graph ≡ g = good_same (by (rounds_read s b' _ w.reads).reads e) in
    let mu : m ≡ count g = u.count_is ∙ ap count gu in
    let mk : k ≡ count g = w.count_is ∙ ap count gw in
    (mu ∙ sym mk, rw (u.room, w.room, gu, gw, mu, mk) (front g (count g) b ∙ sym (front g (count g) b')))
  where
    front : (g : Graph) (m : ℕ) (b : List ℕ) → take (g.nodes + g.nodes) (filled g m b) ≡ stored_values g.nodes (rounds g m) ++ stored_values g.nodes (rounds g (suc m))
    front g m b = take_at _ _ (g.nodes + g.nodes) (simp (length-append, stored_length))
