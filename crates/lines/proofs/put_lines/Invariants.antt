-- `lines::put_lines` meets its contract: the lines of the numbers before the index are written.
use Rattle.std.proofs.Common.{take}
use Rattle.decimals.specs.Writer.{Wrote}
use Rattle.lines.specs.Lines.{lines}
use Rattle.lines.proofs.put_lines.Given as goal

abbrev pub invariant-loop-n : goal.invariant-loop-n
invariant-loop-n l = Wrote l.initial.out (lines (take l.n-index l.numbers)) l.out
