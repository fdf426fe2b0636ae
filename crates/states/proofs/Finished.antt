-- What the answer on a question says of its graph and of the two rooms, and how the verdict on a state is read in a settled one.
-- Assumes nothing.
use Prim.Native.Nat.{ℕ, ◌+◌, ◌≤◌, ◌<◌, min}
use mathlib.Core.List.{List, ◌++◌}
use mathlib.Core.Bool.{Bool, true, false, cond}
use mathlib.Core.Path.{◌≡◌, refl, sym, ap, subst, ◌∙◌}
use lib.ListN.{length, get_or, drop, length-append}
use lib.Dec.{leb}
use borrow.Author.Tests.{leb-true, leb-false, eq-eqb, ne_eqb}
use native.Mathlib.Omega.{arith}
use Rattle.wire.specs.Read.{Read, Ok, Err, ◌>>◌}
use Rattle.wire.proofs.Reading.{demand_good, good_same, never}
use Rattle.value.specs.Value.{at_most}
use Rattle.value.specs.Stored.{stored}
use Rattle.rules.specs.Graph.{Graph}
use Rattle.rules.specs.Rounds.{rounds}
use Rattle.rules.specs.Count.{count}
use Rattle.graph.specs.Write.{write_graph}
use Rattle.turns.specs.Outcome.{filled}
use Rattle.rounds.proofs.Promised.{stored_length, filled_at}
use Rattle.build.specs.Built.{fits}
use Rattle.build.proofs.Writing.{fits_each}
use Rattle.settling.specs.declared.Verdict.TheVariants as Verdict
use Rattle.settling.specs.declared.Answer.{Answer}
use Rattle.settling.specs.declared.AllStates.{AllStates}
use Rattle.questions.specs.Question.{Question, graph_for, root_node}
use Rattle.settling.specs.Answer.{sized, roomed, verdict_of, answer_of, all_of, bytes_of, values_of}
use Rattle.states.proofs.Deciding.{zero_test, root_inside}

-- a question that passes SIZE and has both rooms
pub record Roomed (q : Question) (b v : List ℕ) : Type 0 where
  pub fitting : fits (graph_for q) ≡ true
  pub is : roomed q b v ≡ Ok q

and_first : {A B : Type 0} (x : Read A) (r : Read B) {c : B} → x >> r ≡ Ok c → ((a : A) × (x ≡ Ok a)) × (r ≡ Ok c)
unfolding ◌>>◌
and_first (Ok a) r e = ((a, refl), e)
and_first (Err f) r e = absurd (never e)

pub roomed_good : (q : Question) (b v : List ℕ) {q' : Question} → roomed q b v ≡ Ok q' → Roomed q b v × (q ≡ q')
unfolding roomed sized
roomed_good q b v e =
    let first = and_first _ _ e in
    let same = good_same (demand_good _ _ _ first.1).1 in
    (record { fitting = (demand_good _ _ _ first.0.1).0; is = e ∙ ap Ok (sym same) }, same)

-- the graph was built, and m rounds on it stand in the room of values
pub record Ran (q : Question) (budget : ℕ) (b v : List ℕ) (m long : ℕ) : Type 0 where
  pub fitting : fits (graph_for q) ≡ true
  pub is : roomed q b v ≡ Ok q
  pub long_is : long ≡ length (write_graph (graph_for q))
  pub bytes_are : bytes_of (roomed q b v) b ≡ write_graph (graph_for q) ++ drop long b
  pub values_are : values_of (roomed q b v) budget v ≡ filled (graph_for q) m v

pub record Finished (q : Question) (budget : ℕ) (b v : List ℕ) (m long first states : ℕ) : Type 0 where
  pub ran : Ran q budget b v m long
  pub count_is : m ≡ count (graph_for q)
  pub within : m ≤ budget
  pub first_is : first ≡ root_node q 0
  pub states_are : states ≡ q.model.states

pub record Stopped (q : Question) (budget : ℕ) (b v : List ℕ) (m long : ℕ) : Type 0 where
  pub ran : Ran q budget b v m long
  pub spent : m ≡ budget
  pub later : budget < count (graph_for q)

-- what each answer says
abbrev pub Ended : Question → (budget : ℕ) → (b v : List ℕ) → Read AllStates → Type 0
Ended q budget b v (Ok (AllStates.Settled m long first states)) = Finished q budget b v m long first states
Ended q budget b v (Ok (AllStates.Spent m long)) = Stopped q budget b v m long
Ended q budget b v (Err e) = (bytes_of (roomed q b v) b ≡ b) × (values_of (roomed q b v) budget v ≡ v)

module _ (q : Question) (budget : ℕ) (b v : List ℕ) where
  abbrev g : Graph
  g = graph_for q

  abbrev n : ℕ
  n = length (write_graph g)

  -- by the test of the budget
  tested : Roomed q b v → (t : Bool) → leb (count g) budget ≡ t → Ended q budget b v (Ok (cond t (AllStates.Settled (count g) n (root_node q 0) q.model.states) (AllStates.Spent budget n)))
  unfolding bytes_of values_of
  tested r true s =
      let within = leb-true (count g) budget s in
      let least : min (count g) budget ≡ count g = omega arith in
      record {
        ran = record { fitting = r.fitting; is = r.is; long_is = refl; bytes_are = rw r.is; values_are = rw (r.is, least) };
        count_is = refl;
        within = within;
        first_is = refl;
        states_are = refl;
      }
  tested r false s =
      let later = leb-false (count g) budget s in
      let least : min (count g) budget ≡ budget = omega arith in
      record {
        ran = record { fitting = r.fitting; is = r.is; long_is = refl; bytes_are = rw r.is; values_are = rw (r.is, least) };
        spent = refl;
        later = later;
      }

  pub ended : Ended q budget b v (all_of (roomed q b v) budget)
  unfolding all_of bytes_of values_of
  ended = go (roomed q b v) refl
    where
      go : (x : Read Question) → roomed q b v ≡ x → Ended q budget b v (all_of x budget)
      go (Ok q') e = let (r, same) = roomed_good q b v e in rw (← same) (tested r (leb (count g) budget) refl)
      go (Err f) e = (rw e, rw e)

  -- of an answer that settling gave
  pub ended_as : {s : Read AllStates} → s ≡ all_of (roomed q b v) budget → Ended q budget b v s
  ended_as e = subst (Ended q budget b v) (sym e) ended

-- the answer on a state, from that on all states
abbrev pub decided : Question → ℕ → Read AllStates → Read Answer
decided q state (Ok (AllStates.Settled m n first states)) = Ok (Answer.Decided (verdict_of (at_most (rounds (graph_for q) m (root_node q state)) 0)) m n)
decided q state (Ok (AllStates.Spent m n)) = Ok (Answer.Spent m n)
decided q state (Err e) = Err e

pub answer_decided : (q : Question) (b v : List ℕ) (state budget : ℕ) → answer_of (roomed q b v) state budget ≡ decided q state (all_of (roomed q b v) budget)
unfolding all_of answer_of
answer_decided q b v state budget = go (roomed q b v) refl
  where
    tested : (t : Bool) → let g = graph_for q in let n = length (write_graph g) in
        ◌≡◌ {A = Read Answer} (Ok (cond t (Answer.Decided (verdict_of (at_most (rounds g (count g) (root_node q state)) 0)) (count g) n) (Answer.Spent budget n)))
        (decided q state (Ok (cond t (AllStates.Settled (count g) n (root_node q 0) q.model.states) (AllStates.Spent budget n))))
    tested true = refl
    tested false = refl

    go : (x : Read Question) → roomed q b v ≡ x → answer_of x state budget ≡ decided q state (all_of x budget)
    go (Ok q') e = let (r, same) = roomed_good q b v e in rw (← same) (tested (leb (count (graph_for q)) budget))
    go (Err f) e = refl

-- a filled room holds all nodes
pub filled_inside : (g : Graph) (m : ℕ) (b : List ℕ) → g.nodes ≤ length (filled g m b)
unfolding filled
filled_inside g m b = simp (length-append, stored_length) (omega arith)

-- the number that stands at a state's node
module _ {q : Question} {budget : ℕ} {b v : List ℕ} {m long first states : ℕ} (done : Finished q budget b v m long first states) (some : 1 ≤ length q.rows)
    (state : ℕ) (named : state < q.model.states) where
  node_is : first + state ≡ root_node q state
  node_is = omega (arith, done.first_is)

  pub node_small : first + state < 4096
  node_small = omega (arith, node_is, root_inside q some state named, (fits_each (graph_for q) done.ran.fitting).nodes_fit)

  module _ {v' : List ℕ} (values : v' ≡ values_of (roomed q b v) budget v) where
    pub node_inside : first + state < length v'
    node_inside = rw (values, done.ran.values_are) (omega (arith, node_is, root_inside q some state named, filled_inside (graph_for q) m v))

    pub node_holds : get_or v' (first + state) 0 ≡ stored (rounds (graph_for q) m (root_node q state))
    node_holds = rw (values, done.ran.values_are, node_is) (filled_at (graph_for q) m v (root_node q state) (root_inside q some state named))

    pub read_yes : get_or v' (first + state) 0 ≡ 0 → Ok (Answer.Decided Verdict.Yes m long) ≡ decided q state (Ok (AllStates.Settled m long first states))
    read_yes e =
        let x = rounds (graph_for q) m (root_node q state) in
        ap (λ (t : Bool). Ok (Answer.Decided (verdict_of t) m long)) (sym (zero_test x ∙ eq-eqb (stored x) 0 (sym node_holds ∙ e)))

    pub read_no : ¬ (get_or v' (first + state) 0 ≡ 0) → Ok (Answer.Decided Verdict.No m long) ≡ decided q state (Ok (AllStates.Settled m long first states))
    read_no e =
        let x = rounds (graph_for q) m (root_node q state) in
        ap (λ (t : Bool). Ok (Answer.Decided (verdict_of t) m long)) (sym (zero_test x ∙ ne_eqb (stored x) 0 (λ z. e (node_holds ∙ z))))
