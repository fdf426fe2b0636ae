-- `pieces::put_states` meets its contract: the lines of the states before a are written.
use Rattle.decimals.specs.Writer.{Wrote}
use Rattle.pieces.proofs.Lines.{first_lines}
use Rattle.pieces.proofs.put_states.Given as goal

abbrev pub invariant-loop-a : goal.invariant-loop-a
invariant-loop-a l = Wrote l.initial.out (first_lines l.values l.a) l.out
