-- The messages of model M and of the formulas of T13 to T15 read back as themselves, by computation. Assumes nothing.
use mathlib.Core.List.{List, [], ◌∷◌, map}
use mathlib.Core.Path.{◌≡◌, refl}
use Rattle.lists.specs.Lists.{all, up_to}
use Rattle.value.specs.Coded.{bound_of}
use Rattle.wire.specs.Bytes.{number, bytes}
use Rattle.wire.specs.Read.{Ok, ◌>>=◌, ◌>>◌, unless, below, source_from, field}
use Rattle.wire.specs.Reader.{read_all}
use Rattle.wire.specs.Start.{read_start, only}
use Rattle.wire.specs.Counts.{read_count}
use Rattle.wire.specs.Write.{write_all, message}
use Rattle.model.specs.Message as model
use Rattle.model.specs.Write.{write_model, write_body, write_transition}
use Rattle.syntax.specs.declared.Row.{Row}
use Rattle.syntax.specs.Rows.{row_of, times, uses, used_once}
use Rattle.syntax.specs.Message as formula
use Rattle.syntax.specs.Write.{write_formula, write_row}
use Rattle.known.specs.Questions.{M, T13, T14, T15}

pub model_read : model.read_model (write_model M) ≡ Ok M
unfolding number bytes field ◌>>=◌ ◌>>◌ unless below source_from read_all only read_start read_count write_all message write_model write_body write_transition model.read_model model.read_header model.read_label model.read_transition
model_read = refl

abbrev formulas : List (List Row)
formulas = T13.rows ∷ T14.rows ∷ T15.rows ∷ []

pub formulas_read : map (λ (rows : List Row). formula.read_formula 2 (write_formula rows)) formulas ≡ map (λ (rows : List Row). Ok rows) formulas
unfolding number bytes field ◌>>=◌ ◌>>◌ unless below read_all only read_start read_count write_all message write_formula write_row formula.read_formula formula.read_header formula.spare formula.operand formula.fields_from formula.row_from row_of times uses used_once all up_to bound_of
formulas_read = refl
