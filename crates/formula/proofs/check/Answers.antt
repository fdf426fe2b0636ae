-- `formula::check` meets its contract: p, the header, and the rows. The message is named anew, and is as it was.
use mathlib.Core.Path.{◌≡◌, sym}
use mathlib.Core.List.{List}
use Prim.Native.Nat.{ℕ, ◌-◌}
use native.Mathlib.Omega.{arith}
use lib.ListN.{length, take}
use lib.Seq.{take_all}
use borrow.Author.Tests.{lt-leb, le-leb}
use Rattle.wire.specs.Read.{Ok}
use Rattle.wire.proofs.Reading.{reading, passed}
use Rattle.syntax.specs.Message.{read_header, read_formula}
use Rattle.formula.specs.Answers.{checked}
use Rattle.formula.proofs.Good.{header_good}
use Rattle.formula.proofs.check.Goals as goal
use Rattle.formula.proofs.check.Goals.{In_ok-rows}

-- all of a message is the message
whole : (s : List ℕ) → take (length s - 0) s ≡ s
whole s = take_all (length s - 0) s (omega arith)

-- the header is good
head_good : (c : In_ok-rows) → read_header c.args.s.now ≡ Ok c.in_ok-rows.rows
head_good c = rw (whole _) at (sym c.in_ok-rows.ensures)

pub returns-then-p-gt32 : goal.returns-then-p-gt32
unfolding read_formula checked
returns-then-p-gt32 c = simp (reading, lt-leb _ _ c.if-p-gt32.true)

pub returns-in_err-rows : goal.returns-in_err-rows
unfolding read_formula checked
returns-in_err-rows c = simp (passed c.from_residual.ensures, reading, le-leb _ _ c.if-p-gt32.false, rw (whole _) at (sym c.in_err-rows.ensures))

pub all_rows-requires : goal.all_rows-requires
all_rows-requires c = let h = header_good _ _ (head_good c) in rw (whole _) (h.long, h.f_counted.no_less, h.f_counted.no_more)

pub returns : goal.returns
unfolding read_formula
returns c =
    simp (reading, le-leb _ _ c.if-p-gt32.false, head_good (goal.at.returns c).In_ok-rows) (rw (whole _) at c.all_rows.ensures)
