-- `notes::slot` meets its contract.
use native.Mathlib.Omega.{arith}
use borrow.Author.Tests.{le-leb, lt-leb}
use Rattle.notes.specs.Index.{slot_of}
use Rattle.notes.proofs.slot.Goals as goal

pub returns-then-n-le-SLOTS : goal.returns-then-n-le-SLOTS
unfolding slot_of
returns-then-n-le-SLOTS c = (rw (le-leb c.args.n 512 (omega arith)), omega arith)

pub returns : goal.returns
unfolding slot_of
returns c = (rw (lt-leb c.args.n 512 (omega arith)), omega arith)
