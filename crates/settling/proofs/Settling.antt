-- A question that stands: what building its graph and settling it gives is what the definitions say. Assumes nothing.
use Prim.Native.Nat.{ℕ, ◌+◌, ◌*◌, ◌-◌, ◌≤◌}
use mathlib.Core.List.{List, ◌++◌}
use mathlib.Core.Bool.{Bool, true, false, cond, ◌&&◌}
use mathlib.Core.Path.{◌≡◌, refl, sym, ap, ◌∙◌}
use lib.ListN.{length, take, drop, length-append}
use lib.Seq.{take_at}
use lib.Dec.{leb}
use borrow.Author.Tests.{leb-true}
use native.Mathlib.Omega.{arith}
use Rattle.lists.proofs.Tests.{and_left, and_right}
use Rattle.refusal.specs.Number.{nowhere, unplaced}
use Rattle.refusal.specs.declared.Fault.{Fault}
use Rattle.refusal.specs.declared.Refusal.TheVariants.{Room, Size}
use Rattle.wire.specs.Read.{Read, Ok, Err, ◌>>◌, unless, demand}
use Rattle.wire.proofs.Exact.{good_after, good_demand}
use Rattle.rules.specs.Graph.{Graph}
use Rattle.rules.specs.Count.{count}
use Rattle.graph.specs.Write.{write_graph}
use Rattle.graph.specs.WellFormed as graph
use Rattle.model.specs.WellFormed as model
use Rattle.syntax.specs.WellFormed as formula
use Rattle.reduction.proofs.Built.{built_well_formed}
use Rattle.turns.specs.declared.Outcome.{Outcome}
use Rattle.turns.specs.Outcome as rounds
use Rattle.rounds.proofs.Laws.{count_reported}
use Rattle.transitions.specs.Held.{held_model}
use Rattle.transitions.proofs.Accepted.{rows_length}
use Rattle.build.specs.Built.{fits, roomy, built_of, built_room}
use Rattle.build.proofs.Writing.{fits_each}
use Rattle.settling.specs.declared.AllStates.{AllStates}
use Rattle.questions.specs.Question.{Question, graph_for, root_node}
use Rattle.questions.specs.declared.asked.Asked.{Asked}
use Rattle.questions.specs.Asking.{question_of}
use Rattle.settling.specs.Answer.{sized, roomed, all_of, bytes_of, values_of}

-- the built graph of an accepted question that passes no limit is well-formed
pub fits_well : (q : Question) {p : ℕ} → model.WellFormed q.model → formula.WellFormed p q.rows → fits (graph_for q) ≡ true → graph.WellFormed (graph_for q)
fits_well q m f e = built_well_formed m f (fits_each (graph_for q) e)

-- a graph that was built passes no limit, and both rooms are large enough
pub record WasBuilt (g : Graph) (b : List ℕ) (n long : ℕ) : Type 0 where
  pub fitting : fits g ≡ true
  pub room : roomy g b n ≡ true
  pub long_is : long ≡ length (write_graph g)

pub was_built : (g : Graph) (b : List ℕ) (n : ℕ) {long : ℕ} → built_of g b n ≡ Ok long → WasBuilt g b n long
unfolding built_of
was_built g b n {long} e = go (fits g) (roomy g b n) refl refl e
  where
    go : (t u : Bool) → fits g ≡ t → roomy g b n ≡ u
        → ◌≡◌ {A = Read ℕ} (cond t (cond u (Ok (length (write_graph g))) (Err (unplaced Room))) (Err (unplaced Size))) (Ok long) → WasBuilt g b n long
    go true true p q z = record { fitting = p; room = q; long_is = cc }
    go true false p q z = let w : ◌≡◌ {A = ℕ} 0 1 = cc in absurd (omega arith)
    go false u p q z = let w : ◌≡◌ {A = ℕ} 0 1 = cc in absurd (omega arith)

-- the front of its room is the message
module _ {g : Graph} {b : List ℕ} {n long : ℕ} (built : WasBuilt g b n long) where
  pub front : {b' : List ℕ} → b' ≡ built_room g b n → take long b' ≡ write_graph g
  unfolding built_room
  front r = rw (r, built.fitting, built.room, built.long_is) (take_at (write_graph g) _ _ refl)

  pub front_inside : {b' : List ℕ} → b' ≡ built_room g b n → long ≤ length b'
  unfolding built_room
  front_inside r = rw (r, built.fitting, built.room, built.long_is, length-append (write_graph g)) (omega arith)

  -- and two rounds fit theirs
  pub values_inside : g.nodes + g.nodes ≤ n
  unfolding roomy
  values_inside = leb-true _ _ (and_right (leb (length (write_graph g)) (length b)) _ built.room)

-- how an outcome of the rounds is passed on
abbrev pub passed : Question → ℕ → Outcome → AllStates
passed q long (Outcome.Settled m) = AllStates.Settled m long (root_node q 0) q.model.states
passed q long (Outcome.Spent m) = AllStates.Spent m long

module _ (q : Question) (budget : ℕ) (b v : List ℕ) where
  -- what is shown of settling a question
  abbrev pub Shows : Read AllStates → List ℕ → List ℕ → Type 0
  Shows r b' v' = let x = roomed q b v in (r ≡ all_of x budget) × ((b' ≡ bytes_of x b) × (v' ≡ values_of x budget v))

  -- the same answer
  pub shows_as : {r r' : Read AllStates} {b' v' : List ℕ} → r' ≡ r → Shows r b' v' → Shows r' b' v'
  shows_as e s = (e ∙ s.0, s.1)

  -- the builder refuses what the reading does
  not_roomed : {e : Fault} → built_of (graph_for q) b (length v) ≡ Err e → (roomed q b v ≡ Err e) × (built_room (graph_for q) b (length v) ≡ b)
  unfolding built_of built_room roomy roomed sized ◌>>◌ unless
  not_roomed {e} h =
      go (fits (graph_for q)) (leb (length w) (length b)) (leb ((graph_for q).nodes + (graph_for q).nodes) (length v)) h
    where
      w : List ℕ
      w = write_graph (graph_for q)

      go : (t u r : Bool) → ◌≡◌ {A = Read ℕ} (cond t (cond (u && r) (Ok (length w)) (Err (unplaced Room))) (Err (unplaced Size))) (Err e)
          → (demand t Size nowhere >> (demand u Room nowhere >> Ok q) >> (demand r Room nowhere >> Ok q) ≡ Err e) × (cond t (cond (u && r) (w ++ drop (length w) b) b) b ≡ b)
      go true true true z = let k : ◌≡◌ {A = ℕ} 0 1 = cc in absurd (omega arith)
      go true true false z = let k : e ≡ unplaced Room = cc in (ap Err (sym k), refl)
      go true false r z = let k : e ≡ unplaced Room = cc in (ap Err (sym k), refl)
      go false u r z = let k : e ≡ unplaced Size = cc in (ap Err (sym k), refl)

  -- the graph was refused
  pub shows_refused : {e : Fault} {b' : List ℕ} → built_of (graph_for q) b (length v) ≡ Err e → b' ≡ built_room (graph_for q) b (length v)
      → Shows (Err e) b' v
  unfolding all_of bytes_of values_of
  shows_refused h r = let (is, stays) = not_roomed h in rw is (refl, (r ∙ stays, refl))

  -- the graph was built, and the rounds on it ended
  module _ {long : ℕ} (built : WasBuilt (graph_for q) b (length v) long) where
    was_roomed : roomed q b v ≡ Ok q
    unfolding roomed sized roomy
    was_roomed =
        let message = and_left _ (leb ((graph_for q).nodes + (graph_for q).nodes) (length v)) built.room in
        let values = and_right (leb (length (write_graph (graph_for q))) (length b)) _ built.room in
        good_after (good_demand _ built.fitting (good_demand _ message refl)) (good_demand _ values refl)

    pub shows_ran : {d : Graph} {b' v' : List ℕ} {r r' : Outcome} → d ≡ graph_for q → b' ≡ built_room (graph_for q) b (length v)
        → r ≡ rounds.ended d budget → v' ≡ rounds.filled d (rounds.outcome_count r) v → r ≡ r' → Shows (Ok (passed q long r')) b' v'
    unfolding all_of bytes_of values_of built_room rounds.ended
    shows_ran {d} {b'} {v'} {r} is rb ro rv same =
        let ended : r ≡ rounds.ended (graph_for q) budget = rw is at ro in
        let count_is = ap rounds.outcome_count ended ∙ count_reported (graph_for q) budget in
        rw was_roomed
        (ap (λ (r : Outcome). Ok (passed q long r)) (sym same ∙ ended) ∙ ap Ok (go (leb (count (graph_for q)) budget)), (rb ∙ rw (built.fitting, built.room), rv ∙ rw (is, count_is)))
      where
        go : (t : Bool) → passed q long (cond t (Outcome.Settled (count (graph_for q))) (Outcome.Spent budget))
            ≡ cond t (AllStates.Settled (count (graph_for q)) (length (write_graph (graph_for q))) (root_node q 0) q.model.states) (AllStates.Spent budget (length (write_graph (graph_for q))))
        go true = ap (λ (k : ℕ). AllStates.Settled (count (graph_for q)) k (root_node q 0) q.model.states) built.long_is
        go false = ap (AllStates.Spent budget) built.long_is

-- the root's node of state 0 and the states of an accepted question, as the counts tell them
pub held_done : (asked : Asked) (rounds long : ℕ)
    → AllStates.Settled rounds long (asked.model.states * (asked.formula.rows - 1)) asked.model.states ≡ passed (question_of asked) long (Outcome.Settled rounds)
unfolding held_model
held_done asked rounds long =
    let n = asked.model.states in
    let root : n * (asked.formula.rows - 1) ≡ root_node (question_of asked) 0 = rw (rows_length asked.formula.bytes.now asked.formula.rows) (omega arith) in
    ap (λ (r : ℕ). AllStates.Settled rounds long r n) root
