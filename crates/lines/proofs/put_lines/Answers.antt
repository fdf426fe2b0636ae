-- `lines::put_lines` meets its contract: one line after another is written.
use Rattle.std.proofs.Common.{[], ◌∷◌, sym, ap, arith}
use lib.Seq.{take_all}
use Rattle.decimals.proofs.Writing.{nothing, ◌then◌, fits, fits_before, said}
use Rattle.lines.specs.Lines.{lines}
use Rattle.lines.proofs.Lines.{line_fits, lines_more}
use Rattle.lines.proofs.put_lines.Goals as goal

pub loop-n-init : goal.loop-n-init
unfolding lines
loop-n-init c = nothing _ (omega (arith, c.requires))

pub long-requires : goal.long-requires
long-requires c =
    let l = c.loop-n in
    fits_before l.invariant _ (10 ∷ []) (line_fits c.args.numbers.now l.n-index (omega arith) c.args.out.now c.requires)

pub word-requires : goal.word-requires
word-requires c =
    let l = c.loop-n in
    fits (l.invariant then c.long.ensures) (10 ∷ []) (line_fits c.args.numbers.now l.n-index (omega arith) c.args.out.now c.requires)

pub loop-n-preserved : goal.loop-n-preserved
loop-n-preserved c = said (c.loop-n.invariant then c.long.ensures then c.word.ensures) (lines_more _ _ (omega arith))

pub returns : goal.returns
returns c = said c.loop-n.invariant (ap lines (sym (take_all _ _ (omega arith))))
