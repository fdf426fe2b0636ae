-- What the check of a question tells of the bytes.
use Rattle.std.specs.Prelude.{List, ℕ, ◌≡◌}
use Rattle.wire.specs.Read.{Read, Ok, Err}
use Rattle.transitions.specs.Views.{model_of, rows_of}
use Rattle.questions.specs.declared.asked.Asked.{Asked}
use Rattle.questions.specs.Question.{Question, read_question}

-- the question that was accepted
abbrev pub question_of : Asked → Question
question_of asked = record { model = model_of asked.model; rows = rows_of asked.formula }

-- an answer that is good: the bytes are read as this question; a refusal: it is the first fault of the two
abbrev pub Asking : (m f : List ℕ) → Read Asked → Type 0
Asking m f (Ok asked) = read_question m f ≡ Ok (question_of asked)
Asking m f (Err e) = read_question m f ≡ Err e
