-- What the customer is promised follows from the definitions of the outcome and the room. Assumes nothing.
use Prim.Native.Nat.{ℕ, zero, suc, ◌+◌, ◌-◌, ◌*◌, ◌≤◌, ◌<◌, min}
use mathlib.Core.List.{List, [], ◌∷◌, ◌++◌, append_assoc}
use mathlib.Core.Bool.{Bool, true, false, cond}
use mathlib.Core.Path.{◌≡◌, refl, ◌∙◌}
use lib.ListN.{length, get_or, drop, length-append}
use lib.Seq.{get_or-append-add, get_or_at}
use lib.Dec.{leb}
use borrow.Author.Tests.{leb-true, leb-false}
use native.Mathlib.Decide.{ℕ_discrete, dec_lt}
use native.Mathlib.Omega.{arith}
use Rattle.value.specs.Value.{Value, finite, ◌≼◌}
use Rattle.value.specs.Stored.{stored}
use Rattle.value.proofs.Stored.{meaning_stored}
use Rattle.refusal.specs.declared.Fault.{Fault}
use Rattle.refusal.proofs.Numbers.{number_above}
use Rattle.wire.specs.Bytes.{Bytes}
use Rattle.wire.specs.Read.{Read, Ok, Err}
use Rattle.wire.proofs.Reading.{bind_good, demand_good, good_same}
use Rattle.rules.specs.Graph.{Graph, heaviest}
use Rattle.rules.specs.Rounds.{Assignment, rounds}
use Rattle.rules.specs.Count.{count}
use Rattle.rules.proofs.Order.{largest_agree}
use Rattle.rules.proofs.Size.{value_bound, heaviest_light}
use Rattle.rules.proofs.Count.{count_first, count_le, count_largest}
use Rattle.rules.proofs.Cycles.{free_count}
use Rattle.graph.specs.Stored.{StoredGraph}
use Rattle.graph.specs.Message.{read_graph}
use Rattle.graph.specs.Write.{write_graph}
use Rattle.graph.specs.WellFormed.{WellFormed, Accepted}
use Rattle.graph.proofs.Ready.{rounds_fit}
use Rattle.graph.proofs.Exact.{accepted_written}
use Rattle.turns.specs.declared.Outcome.TheVariants.{Settled, Spent}
use Rattle.halves.specs.Held.{held}
use Rattle.turns.specs.Outcome.{stored_values, filled, read_rounds, ended, outcome_of, rounds_room}
use Rattle.rounds.specs.Promise.{Halves, SettledAt, SpentAt, Promise}

-- the stored values one by one
pub stored_length : (n : ℕ) (x : Assignment) → length (stored_values n x) ≡ n
unfolding stored_values
stored_length zero x = refl
stored_length (suc n) x = simp length-append (omega (arith, stored_length n x))

pub stored_at : (n : ℕ) (x : Assignment) (r : List ℕ) (v : ℕ) → v < n → get_or (stored_values n x ++ r) v 0 ≡ stored (x v)
unfolding stored_values
stored_at zero x r v h = absurd (omega arith)
stored_at (suc n) x r v h = go (ℕ_discrete v n) (stored_at n x (stored (x n) ∷ r) v)
  where
    again : (stored_values n x ++ (stored (x n) ∷ [])) ++ r ≡ stored_values n x ++ (stored (x n) ∷ r)
    again = append_assoc (stored_values n x) (stored (x n) ∷ []) r

    go : Dec (v ≡ n) → (v < n → get_or (stored_values n x ++ (stored (x n) ∷ r)) v 0 ≡ stored (x v))
        → get_or ((stored_values n x ++ (stored (x n) ∷ [])) ++ r) v 0 ≡ stored (x v)
    go (yes e) before = rw (again, e) (get_or_at (stored_values n x) (stored (x n)) r 0 n (stored_length n x))
    go (no e) before = rw again (before (omega arith))

-- the parts of a filled room
filled_parts : (g : Graph) (m : ℕ) (b : List ℕ)
    → filled g m b ≡ stored_values g.nodes (rounds g m) ++ (stored_values g.nodes (rounds g (suc m)) ++ drop (g.nodes + g.nodes) b)
unfolding filled
filled_parts g m b = simp append_assoc

-- the first half holds round m
pub filled_at : (g : Graph) (m : ℕ) (b : List ℕ) (v : ℕ) → v < g.nodes → get_or (filled g m b) v 0 ≡ stored (rounds g m v)
filled_at g m b v l = rw (filled_parts g m b) (stored_at g.nodes (rounds g m) _ v l)

module _ (g : Graph) (wf : WellFormed g) (m : ℕ) (b₀ : List ℕ) where
  -- what its two halves mean
  first_half : (v : ℕ) → v < g.nodes → held (filled g m b₀) v ≡ rounds g m v
  first_half v l = rw (filled_at g m b₀ v l) (meaning_stored (rounds g m v) (λ k e. rounds_fit g wf m v k l e))

  second_half : (v : ℕ) → v < g.nodes → held (filled g m b₀) (g.nodes + v) ≡ rounds g (suc m) v
  second_half v l =
      let n = g.nodes in
      let front = stored_values n (rounds g m) in
      let back = stored_values n (rounds g (suc m)) ++ drop (n + n) b₀ in
      let e : n + v ≡ length front + v = omega (arith, stored_length n (rounds g m)) in
      let behind : get_or (filled g m b₀) (n + v) 0 ≡ stored (rounds g (suc m) v) =
      rw (filled_parts, e) (get_or-append-add front back v 0 ∙ stored_at n (rounds g (suc m)) (drop (n + n) b₀) v l) in
      rw behind (meaning_stored (rounds g (suc m) v) (λ k e. rounds_fit g wf (suc m) v k l e))

  -- no finite number in either half is above (n - 1) w
  both_small : (v : ℕ) → v < g.nodes + g.nodes → finite (held (filled g m b₀) v) ≡ true
      → held (filled g m b₀) v ≼ ((g.nodes - 1) * heaviest g.hypers)
  both_small v l = go (dec_lt v g.nodes)
    where
      Small : Value → Type 0
      Small a = finite a ≡ true → a ≼ ((g.nodes - 1) * heaviest g.hypers)

      bound : (i u : ℕ) → u < g.nodes → Small (rounds g i u)
      bound i u h = value_bound g wf.closed (heaviest g.hypers) (heaviest_light g) i u h

      go : Dec (v < g.nodes) → Small (held (filled g m b₀) v)
      go (yes h) = rw (first_half v h) (bound m v h)
      go (no h) =
          let u = v - g.nodes in
          let e : v ≡ g.nodes + u = omega arith in
          rw (e, second_half u (omega arith)) (bound (suc m) u (omega arith))

  pub both_halves : Halves g m (filled g m b₀)
  both_halves = record { first_half = first_half; second_half = second_half; small = both_small }

-- what is promised of the rounds on a well-formed graph
module _ (g : Graph) (wf : WellFormed g) (budget : ℕ) (b₀ : List ℕ) where
  pub settled_at : count g ≤ budget → SettledAt g budget (filled g (count g) b₀) (count g)
  settled_at within = record {
    halves = both_halves g wf (count g) b₀;
    first = count_first g wf.closed;
    within = within;
    soon = count_le g;
    sooner = free_count g wf.closed;
    largest = largest_agree g wf.closed (count_largest g wf.closed) (first_half g wf (count g) b₀);
  }

  pub spent_at : budget < count g → SpentAt g budget (filled g budget b₀) budget
  spent_at later = record {
    halves = both_halves g wf budget b₀;
    spent = refl;
    later = λ i l. (count_first g wf.closed).before i (omega arith);
  }

-- a message that the rounds take: the graph is accepted, and the room is large enough
pub record RoundsRead (s b : List ℕ) (g : StoredGraph) : Type 0 where
  pub reads : read_graph s ≡ Ok g
  pub room : g.nodes + g.nodes ≤ length b

pub rounds_read : (s b : List ℕ) (g : StoredGraph) → read_rounds s b ≡ Ok g → RoundsRead s b g
unfolding read_rounds
rounds_read s b g e =
    let x = bind_good _ _ e in
    let d = demand_good _ _ _ x.rest in
    let same = good_same d.1 in
    rw (← same) (record { reads = x.first; room = leb-true _ _ d.0 })

-- the outcome and the room of the definitions keep the promise
module _ (s : List ℕ) (budget : ℕ) (b₀ : List ℕ) where
  -- a refusal's number is above BUDGET's
  pub kept_refused : (e : Fault) → Promise s budget b₀ b₀ (Err e)
  kept_refused e =
      let above = number_above e.refusal in
      record { settled = λ z. absurd (omega arith); spent = λ z. absurd (omega arith); refused = λ l. (refl, refl) }

  kept_ended : (g : Graph) → s ≡ write_graph g → WellFormed g → Promise s budget b₀ (filled g (min (count g) budget) b₀) (Ok (ended g budget))
  unfolding ended
  kept_ended g e wf = go (leb (count g) budget) refl
    where
      accepted : Accepted s g
      accepted = record { writing = e; well_formed = wf }

      go : (t : Bool) → leb (count g) budget ≡ t → Promise s budget b₀ (filled g (min (count g) budget) b₀) (Ok (cond t (Settled (count g)) (Spent budget)))
      go true h =
          let within = leb-true (count g) budget h in
          let m : min (count g) budget ≡ count g = omega arith in
          rw m
          (record {
            settled = λ z. (g, accepted, settled_at g wf budget b₀ within);
            spent = λ z. absurd (omega arith);
            refused = λ z. absurd (omega arith);
          })
      go false h =
          let later = leb-false (count g) budget h in
          let m : min (count g) budget ≡ budget = omega arith in
          rw m
          (record {
            settled = λ z. absurd (omega arith);
            spent = λ z. (g, accepted, spent_at g wf budget b₀ later);
            refused = λ z. absurd (omega arith);
          })

  -- whatever is read: the graph, then the room
  pub kept : Bytes s → Promise s budget b₀ (rounds_room (read_rounds s b₀) budget b₀) (outcome_of (read_rounds s b₀) budget)
  unfolding outcome_of rounds_room
  kept bytes = go (read_rounds s b₀) refl
    where
      go : (x : Read StoredGraph) → read_rounds s b₀ ≡ x → Promise s budget b₀ (rounds_room x budget b₀) (outcome_of x budget)
      go (Ok g) e = let w = accepted_written s g bytes (rounds_read s b₀ g e).reads in kept_ended g w.0 w.1
      go (Err e) r = kept_refused e
