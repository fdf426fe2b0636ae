-- The reading of a question, from the answers of the two checks; and what a question that is read says of its messages. Assumes nothing.
use Prim.Native.Nat.{ℕ}
use mathlib.Core.List.{List}
use mathlib.Core.Path.{◌≡◌, refl, sym, ap, subst, ◌∙◌}
use Rattle.refusal.specs.declared.Fault.{Fault}
use Rattle.wire.specs.Bytes.{Bytes}
use Rattle.wire.specs.Read.{Ok, Err}
use Rattle.wire.proofs.Reading.{good_then, bad_then, bind_good, good_same}
use Rattle.wire.proofs.Exact.{good_bind}
use Rattle.model.specs.Message.{read_model}
use Rattle.model.specs.Answers as model
use Rattle.model.specs.declared.Counts.{Counts}
use Rattle.model.proofs.Answered as answered
use Rattle.syntax.specs.Message.{read_formula}
use Rattle.formula.specs.Answers as formula
use Rattle.formula.proofs.Answered.{checked_formula, checked_refused}
use Rattle.transitions.specs.Held.{held_model, held_rows, HoldsModel, HoldsRows}
use Rattle.transitions.proofs.Holding.{model_held, rows_held}
use Rattle.questions.specs.Question.{Question, read_question}

-- a message that is checked as a model of these counts
pub record ModelRead (m : List ℕ) (k : Counts) : Type 0 where
  pub reads : read_model m ≡ Ok (held_model m k.states k.propositions k.transitions)
  pub stands : HoldsModel m k.states k.propositions k.transitions

pub model_read : (m : List ℕ) {k : Counts} → Bytes m → Ok k ≡ model.checked (read_model m) → ModelRead m k
unfolding model.checked
model_read m bytes e =
    let M = bind_good _ _ (sym e) in
    let held = model_held m M.value bytes M.first in
    subst (ModelRead m) (good_same M.rest) (record { reads = M.first ∙ ap Ok held.is; stands = held.stands })

-- a refused model
pub asked_refused : (m f : List ℕ) {e : Fault} → Err e ≡ model.checked (read_model m) → read_question m f ≡ Err e
unfolding read_question
asked_refused m f h = rw (answered.checked_refused (read_model m) (sym h)) (bad_then _ _)

-- a model, and the answer on the formula
module _ (m f : List ℕ) {k : Counts} (read : ModelRead m k) where
  pub rows_refused : {e : Fault} → Err e ≡ formula.checked (read_formula k.propositions f) → read_question m f ≡ Err e
  unfolding read_question held_model
  rows_refused h = rw (read.reads, good_then, checked_refused (read_formula k.propositions f) (sym h)) (bad_then _ _)

  -- the question, and that the rows are accepted
  pub asked : {rows : ℕ} → Bytes f → Ok rows ≡ formula.checked (read_formula k.propositions f)
      → (read_question m f ≡ Ok (record { model = held_model m k.states k.propositions k.transitions; rows = held_rows f rows })) × HoldsRows f rows k.propositions
  unfolding read_question held_model
  asked bytes h =
      let r = checked_formula (read_formula k.propositions f) (sym h) in
      let held = rw r.long at (rows_held k.propositions f r.rows bytes r.read) in
      (good_bind _ read.reads (good_bind _ (r.read ∙ ap Ok held.is) refl), held.stands)

-- both messages of a question that is read are accepted
pub question_parts : (m f : List ℕ) (q : Question) → read_question m f ≡ Ok q
    → (read_model m ≡ Ok q.model) × (read_formula q.model.propositions f ≡ Ok q.rows)
unfolding read_question
question_parts m f q e =
    let x = bind_good _ _ e in
    let y = bind_good _ _ x.rest in
    let same = good_same y.rest in
    rw (← same) (x.first, y.first)
