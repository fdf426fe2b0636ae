-- `notes::is_long` meets its contract.
use mathlib.Core.Path.{refl}
use native.Mathlib.Omega.{arith}
use borrow.Author.Tests.{le-leb, lt-leb}
use Rattle.notes.specs.Index.{long_for}
use Rattle.notes.proofs.is_long.Goals as goal

pub returns-then-count-lt64 : goal.returns-then-count-lt64
unfolding long_for
returns-then-count-lt64 c = rw (lt-leb 64 c.args.count c.if-count-lt64.true) refl

pub returns : goal.returns
unfolding long_for
returns c = rw (le-leb 64 c.args.count (omega (arith, c.if-count-lt64.false))) refl
