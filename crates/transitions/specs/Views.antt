-- What the views of accepted messages show: the model, the rows, the transitions, and what is looked at.
use Rattle.std.specs.Prelude.{Bool, List}
use Rattle.model.specs.Model.{Model, Transition}
use Rattle.syntax.specs.declared.Row.{Row}
use Rattle.transitions.specs.declared.views.AcceptedModel.{AcceptedModel}
use Rattle.transitions.specs.declared.views.AcceptedRows.{AcceptedRows}
use Rattle.transitions.specs.declared.views.Out.{Out}
use Rattle.transitions.specs.declared.views.Look.{Look}
use Rattle.transitions.specs.Held.{held_model, held_rows, transitions_from}
use Rattle.transitions.specs.Looked.{is_near}

-- the model and the rows that were accepted
abbrev pub model_of : AcceptedModel → Model
model_of m = held_model m.bytes.now m.states m.propositions m.transitions

abbrev pub rows_of : AcceptedRows → List Row
rows_of f = held_rows f.bytes.now f.rows

-- the transitions that stand together
abbrev pub list_of : Out → List Transition
list_of out = transitions_from out.bytes.now out.states out.first out.many

-- it looks at a transition
abbrev pub is_near_by : Look → Transition → Bool
is_near_by look = is_near look.low look.high look.most
