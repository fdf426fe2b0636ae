-- `formula::Uses::one_more` meets its contract: one use more, and the row's bit is set.
use mathlib.Core.Path.{refl}
use Rattle.formula.proofs.Marks.{mark_more}
use Rattle.formula.proofs.Uses.one_more.Goals as goal

pub returns : goal.returns
returns c = record { total_value = refl; row_marked = λ ls m. mark_more c.args.row c.requires.0 m }
