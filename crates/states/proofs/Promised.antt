-- What the customer is promised follows from the definitions of the answer and the rooms. Assumes nothing.
use Prim.Native.Nat.{ℕ, ◌+◌, ◌-◌, ◌≤◌, ◌<◌}
use mathlib.Core.List.{List}
use mathlib.Core.Path.{◌≡◌, refl, ap, ◌∙◌}
use lib.ListN.{length}
use borrow.Author.Tests.{lt-ltb, le-ltb}
use native.Mathlib.Decide.{dec_lt}
use native.Mathlib.Omega.{arith}
use Rattle.refusal.specs.Number.{unplaced}
use Rattle.refusal.specs.declared.Fault.{Fault}
use Rattle.refusal.specs.declared.Refusal.TheVariants.{Name}
use Rattle.refusal.proofs.Numbers.{number_above}
use Rattle.wire.specs.Bytes.{Bytes}
use Rattle.wire.specs.Read.{Read, Ok, Err, ◌>>=◌}
use Rattle.wire.proofs.Reading.{reading, good_then, bad_then}
use Rattle.rules.specs.Graph.{Graph}
use Rattle.graph.specs.WellFormed.{WellFormed}
use Rattle.turns.specs.Outcome.{filled}
use Rattle.rounds.specs.Promise.{SettledAt}
use Rattle.rounds.proofs.Promised.{settled_at, spent_at}
use Rattle.model.proofs.Exact as model
use Rattle.formula.proofs.Exact as formula
use Rattle.reduction.proofs.Depths.{built_count}
use Rattle.settling.specs.declared.AllStates.{AllStates}
use Rattle.questions.specs.Question.{Question, read_question, graph_for, root_node}
use Rattle.settling.specs.Answer.{roomed, read_settled, read_asked, answer_of, all_of, bytes_of, values_of}
use Rattle.states.specs.Promise.{Asks, Leaves, Spends, Refuses, Promise, PromiseAll}
use Rattle.questions.proofs.Reading.{question_parts}
use Rattle.settling.proofs.Settling.{fits_well}
use Rattle.states.proofs.Fitting.{stands}
use Rattle.states.proofs.Deciding.{root_inside, yes_when, no_when, all_when}
use Rattle.states.proofs.Finished.{Ran, Finished, Stopped, Ended, ended, decided, answer_decided, filled_inside}

-- the messages of a question that is read are its writings
pub asks : (m f : List ℕ) (q : Question) → Bytes m → Bytes f → read_question m f ≡ Ok q → Asks m f q
asks m f q mb fb e =
    let parts = question_parts m f q e in
    let model = model.accepted_written m q.model mb parts.0 in
    let rows = formula.accepted_written q.model.propositions f q.rows fb parts.1 in
    record { model_written = model.0; model_fits = model.1; formula_written = rows.0; formula_fits = rows.1 }

-- a refusal's number is above BUDGET's
module _ (m f : List ℕ) (budget : ℕ) (b v : List ℕ) (e : Fault) (b' v' : List ℕ) (same : (b' ≡ b) × (v' ≡ v)) where
  abbrev stays : Refuses b v b' v' 0 0
  stays = record { no_count = refl; no_length = refl; bytes_stay = same.0; values_stay = same.1 }

  refused_all : PromiseAll m f budget b v b' v' (Err e)
  refused_all =
      let above = number_above e.refusal in
      record { decides = λ z. absurd (omega arith); spends = λ z. absurd (omega arith); refuses = λ z. stays }

  refused_one : (state : ℕ) → Promise m f state budget b v b' v' (Err e)
  refused_one state =
      let above = number_above e.refusal in
      record { decides = λ z. absurd (omega arith); spends = λ z. absurd (omega arith); refuses = λ z. (refl, stays) }

-- a question that stands
module _ (m f : List ℕ) (budget : ℕ) (b v : List ℕ) (q : Question) (asked : Asks m f q) where
  abbrev g : Graph
  g = graph_for q

  -- the rooms after the call
  abbrev b' : List ℕ
  b' = bytes_of (roomed q b v) b

  abbrev v' : List ℕ
  v' = values_of (roomed q b v) budget v

  -- its graph, where it was built
  well : {k n : ℕ} → Ran q budget b v k n → WellFormed g
  well ran = fits_well q asked.model_fits asked.formula_fits ran.fitting

  leaves : {k n : ℕ} → Ran q budget b v k n → Leaves q b v b' v' k n
  leaves ran = record {
    graph = stands q asked.model_fits asked.formula_fits ran.fitting b ran.long_is ran.bytes_are;
    two_rounds = ran.values_are;
  }

  settled : {k n first states : ℕ} → Finished q budget b v k n first states → SettledAt g budget v' k
  settled done = rw (done.ran.values_are, done.count_is) (settled_at g (well done.ran) budget v (rw done.count_is at done.within))

  -- a built graph has no cycle through a cover edge
  soon : {k n first states : ℕ} → Finished q budget b v k n first states → k ≤ g.nodes
  soon done = rw done.count_is (built_count asked.model_fits asked.formula_fits)

  spends : {k n : ℕ} → Stopped q budget b v k n → Spends m f budget b v b' v' k n
  spends stop = record {
    question = q;
    asked = asked;
    spent = rw (stop.ran.values_are, stop.spent) (spent_at g (well stop.ran) budget v stop.later);
    leaves = leaves stop.ran;
  }

  -- the last state's node is one
  all_inside : (i : ℕ) → root_node q 0 + q.model.states ≤ length (filled g i v)
  all_inside i =
      let some : 1 ≤ q.model.states = asked.model_fits.some_state in
      let last = root_inside q asked.formula_fits.some_row (q.model.states - 1) (omega arith) in
      omega (arith, filled_inside g i v)

  kept_for : PromiseAll m f budget b v b' v' (all_of (roomed q b v) budget)
  kept_for = go (all_of (roomed q b v) budget) (ended q budget b v)
    where
      go : (s : Read AllStates) → Ended q budget b v s → PromiseAll m f budget b v b' v' s
      go (Ok (AllStates.Settled k n first states)) done = record {
        decides =
            λ z. record {
              question = q;
              asked = asked;
              says = ap (λ (x : ℕ). Ok (AllStates.Settled k n x states)) done.first_is ∙ ap (λ (x : ℕ). Ok (AllStates.Settled k n (root_node q 0) x)) done.states_are;
              inside = rw done.ran.values_are (all_inside k);
              yes = rw done.ran.values_are (all_when q asked.model_fits asked.formula_fits k v (settled done).first.settled);
              settled = settled done;
              soon = soon done;
              leaves = leaves done.ran;
            };
        spends = λ z. absurd (omega arith);
        refuses = λ z. absurd (omega arith);
      }
      go (Ok (AllStates.Spent k n)) stop = record { decides = λ z. absurd (omega arith); spends = λ z. spends stop; refuses = λ z. absurd (omega arith) }
      go (Err e) same = refused_all m f budget b v e _ _ same

  -- and one of its states
  kept_state : (state : ℕ) → state < q.model.states → Promise m f state budget b v b' v' (decided q state (all_of (roomed q b v) budget))
  unfolding spends
  kept_state state named = go (all_of (roomed q b v) budget) (ended q budget b v)
    where
      go : (s : Read AllStates) → Ended q budget b v s → Promise m f state budget b v b' v' (decided q state s)
      go (Ok (AllStates.Settled k n first states)) done =
          let unchanged = (settled done).first.settled in
          record {
            decides =
                λ z. record {
                  question = q;
                  asked = asked;
                  named = named;
                  yes = yes_when q asked.model_fits asked.formula_fits k unchanged state named;
                  otherwise = no_when q asked.model_fits asked.formula_fits k unchanged state named;
                  settled = settled done;
                  soon = soon done;
                  leaves = leaves done.ran;
                };
            spends = λ z. absurd (omega arith);
            refuses = λ z. absurd (omega arith);
          }
      go (Ok (AllStates.Spent k n)) stop = record {
        decides = λ z. absurd (omega arith);
        spends = λ z. record { none = refl; spends = spends stop; named = named };
        refuses = λ z. absurd (omega arith);
      }
      go (Err e) same = refused_one m f budget b v e _ _ same state

-- the state that is asked for exists, and the question is the one that is read
pub asked_is : (m f b v : List ℕ) (q : Question) (state : ℕ) → read_question m f ≡ Ok q → state < q.model.states → read_asked m f state b v ≡ roomed q b v
unfolding read_asked
asked_is m f b v q state e l = rw e (simp reading (rw (lt-ltb state q.model.states l) (simp reading)))

-- whatever is read
module _ (m f : List ℕ) (mb : Bytes m) (fb : Bytes f) (budget : ℕ) (b v : List ℕ) where
  pub kept_all : let x = read_settled m f b v in PromiseAll m f budget b v (bytes_of x b) (values_of x budget v) (all_of x budget)
  unfolding bytes_of values_of all_of read_settled
  kept_all = go (read_question m f) refl
    where
      go : (x : Read Question) → read_question m f ≡ x → let y = x >>= λ q. roomed q b v in PromiseAll m f budget b v (bytes_of y b) (values_of y budget v) (all_of y budget)
      go (Ok q) e = rw (good_then q (λ q. roomed q b v)) (kept_for m f budget b v q (asks m f q mb fb e))
      go (Err r) e = rw (bad_then r (λ q. roomed q b v)) (refused_all m f budget b v r b v (refl, refl))

  pub kept_one : (state : ℕ) → let x = read_asked m f state b v in Promise m f state budget b v (bytes_of x b) (values_of x budget v) (answer_of x state budget)
  unfolding bytes_of values_of answer_of read_asked
  kept_one state = go (read_question m f) refl
    where
      refused : (r : Fault) → read_asked m f state b v ≡ Err r → let x = read_asked m f state b v in
          Promise m f state budget b v (bytes_of x b) (values_of x budget v) (answer_of x state budget)
      refused r h = rw h (refused_one m f budget b v r b v (refl, refl) state)

      go : (x : Read Question) → read_question m f ≡ x → let y = read_asked m f state b v in Promise m f state budget b v (bytes_of y b) (values_of y budget v) (answer_of y state budget)
      go (Ok q) e = elim (dec_lt state q.model.states) [
        | yes l ↦ rw (asked_is m f b v q state e l, answer_decided q b v state budget) (kept_state m f budget b v q (asks m f q mb fb e) state l)
        | no l ↦ refused (unplaced Name) (rw e (simp reading (rw (le-ltb state q.model.states (omega arith)) (simp reading))))
      ]
      go (Err r) e = refused r (rw e (simp reading))
