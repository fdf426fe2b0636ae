-- What is shown of a call that settles a question or asks for a verdict, exit by exit: its answer, its rooms, and so the promise.
-- Assumes nothing.
use Prim.Native.Nat.{ℕ, ◌+◌, ◌*◌, ◌≤◌, ◌<◌}
use mathlib.Core.List.{List}
use mathlib.Core.Path.{◌≡◌, refl, sym, ap, ◌∙◌}
use lib.ListN.{length}
use borrow.Author.Tests.{le-ltb}
use Rattle.refusal.specs.Number.{unplaced}
use Rattle.refusal.specs.declared.Fault.{Fault}
use Rattle.refusal.specs.declared.Refusal.TheVariants.{Name}
use Rattle.wire.specs.Bytes.{Bytes}
use Rattle.wire.specs.Read.{Read, Ok, Err}
use Rattle.wire.proofs.Reading.{reading, good_then, bad_then}
use Rattle.reduction.specs.Built.{untils, graph_of}
use Rattle.transitions.specs.Held.{held_model}
use Rattle.transitions.specs.Views.{rows_of}
use Rattle.transitions.proofs.Accepted.{rows_length}
use Rattle.settling.specs.declared.Answer.{Answer}
use Rattle.settling.specs.declared.AllStates.{AllStates}
use Rattle.questions.specs.declared.asked.Asked.{Asked}
use Rattle.questions.specs.Question.{Question, read_question, nodes_of}
use Rattle.questions.specs.Asking.{question_of}
use Rattle.settling.specs.Answer.{roomed, read_settled, read_asked, answer_of, all_of, bytes_of, values_of}
use Rattle.states.specs.Promise.{Promise, PromiseAll}
use Rattle.settling.proofs.Settling.{Shows}
use Rattle.states.proofs.Finished.{decided, answer_decided}
use Rattle.states.proofs.Promised.{asked_is, kept_all, kept_one}

-- ---- the number of nodes

module _ (m f : List ℕ) where
  -- the model or the formula is refused
  pub nodes_refused : {e : Fault} → read_question m f ≡ Err e → 0 ≡ nodes_of (read_question m f)
  unfolding nodes_of
  nodes_refused h = rw h refl

  -- both are accepted
  pub nodes_counted : (asked : Asked) {r : ℕ} → read_question m f ≡ Ok (question_of asked)
      → r ≡ asked.model.states * (asked.formula.rows + length (untils (rows_of asked.formula))) → r ≡ nodes_of (read_question m f)
  unfolding nodes_of graph_of held_model
  nodes_counted asked reads e = rw (reads, rows_length asked.formula.bytes.now asked.formula.rows) e

-- ---- all states at once

abbrev pub ShownAll : (m f : List ℕ) (budget : ℕ) (b v : List ℕ) → Read AllStates → List ℕ → List ℕ → Type 0
ShownAll m f budget b v r b' v' =
    let x = read_settled m f b v in
    (r ≡ all_of x budget) × ((b' ≡ bytes_of x b) × ((v' ≡ values_of x budget v) × PromiseAll m f budget b v b' v' r))

module _ (m f : List ℕ) (mb : Bytes m) (fb : Bytes f) (budget : ℕ) (b v : List ℕ) where
  shown_all : (r : Read AllStates) (b' v' : List ℕ) → let x = read_settled m f b v in
      r ≡ all_of x budget → b' ≡ bytes_of x b → v' ≡ values_of x budget v → ShownAll m f budget b v r b' v'
  shown_all r b' v' p q s = (p, (q, (s, rw (p, q, s) (kept_all m f mb fb budget b v))))

  -- the model or the formula is refused
  pub all_refused : {e : Fault} → read_question m f ≡ Err e → ShownAll m f budget b v (Err e) b v
  unfolding all_of bytes_of values_of read_settled
  all_refused {e} h = let is : read_settled m f b v ≡ Err e = rw h (bad_then _ _) in shown_all _ _ _ (rw is) (rw is) (rw is)

  -- both are accepted
  pub all_settled : {q : Question} {r : Read AllStates} {b' v' : List ℕ} → read_question m f ≡ Ok q → Shows q budget b v r b' v'
      → ShownAll m f budget b v r b' v'
  unfolding read_settled
  all_settled {q} reads s =
      let is : read_settled m f b v ≡ roomed q b v = rw reads (good_then _ _) in
      shown_all _ _ _ (rw is s.0) (rw is s.1.0) (rw is s.1.1)

-- ---- one state

abbrev pub Shown : (m f : List ℕ) (state budget : ℕ) (b v : List ℕ) → Read Answer → List ℕ → List ℕ → Type 0
Shown m f state budget b v r b' v' =
    let x = read_asked m f state b v in
    (r ≡ answer_of x state budget) × ((b' ≡ bytes_of x b) × ((v' ≡ values_of x budget v) × Promise m f state budget b v b' v' r))

module _ (m f : List ℕ) (mb : Bytes m) (fb : Bytes f) (state budget : ℕ) (b v : List ℕ) where
  shown : (r : Read Answer) (b' v' : List ℕ) → let x = read_asked m f state b v in
      r ≡ answer_of x state budget → b' ≡ bytes_of x b → v' ≡ values_of x budget v → Shown m f state budget b v r b' v'
  shown r b' v' p q s = (p, (q, (s, rw (p, q, s) (kept_one m f mb fb budget b v state))))

  stopped : {e : Fault} → read_asked m f state b v ≡ Err e → Shown m f state budget b v (Err e) b v
  unfolding answer_of bytes_of values_of
  stopped h = shown _ _ _ (rw h) (rw h) (rw h)

  -- the model or the formula is refused
  pub one_refused : {e : Fault} → read_question m f ≡ Err e → Shown m f state budget b v (Err e) b v
  unfolding read_asked
  one_refused h = stopped (rw h (simp reading))

  -- both are accepted: there is no such state, or there is
  module _ {q : Question} (reads : read_question m f ≡ Ok q) where
    pub one_unnamed : q.model.states ≤ state → Shown m f state budget b v (Err (unplaced Name)) b v
    unfolding read_asked
    one_unnamed h = stopped (rw reads (simp reading (rw (le-ltb state q.model.states h) (simp reading))))

    pub one_decided : {s : Read AllStates} {r : Read Answer} {b' v' : List ℕ} → state < q.model.states → Shows q budget b v s b' v'
        → r ≡ decided q state s → Shown m f state budget b v r b' v'
    one_decided l shows e =
        let is = asked_is m f b v q state reads l in
        shown _ _ _ (rw is (e ∙ ap (decided q state) shows.0 ∙ sym (answer_decided q b v state budget))) (rw is shows.1.0) (rw is shows.1.1)
