-- `Notes::advance` meets its contract.
use native.Mathlib.Omega.{arith}
use Rattle.notes.proofs.Publishing.{everything_marks}
use Rattle.notes.proofs.Notes.advance.Goals as goal

pub mostly_changed-requires : goal.mostly_changed-requires
mostly_changed-requires c = let o = c.requires.besides.in_order in record { n_in_bounds = c.requires.n_in_bounds; from_le_n = (omega (arith, o), omega (arith, o)) }

pub returns-then-mostly_changed : goal.returns-then-mostly_changed
returns-then-mostly_changed c = everything_marks c.requires.everything c.raise.ensures

pub mostly_changed-requires-2 : goal.mostly_changed-requires-2
mostly_changed-requires-2 c = let o = c.requires.besides.in_order in record { n_in_bounds = c.requires.n_in_bounds; from_le_n = (omega (arith, o), o.3) }

pub returns-then-mostly_changed-2 : goal.returns-then-mostly_changed-2
returns-then-mostly_changed-2 c = everything_marks c.requires.everything c.raise-then-mostly_changed-2.ensures
