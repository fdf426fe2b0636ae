-- `pieces::put_settled` meets its contract: the text and the end of its line, the count of rounds, and the states' lines.
use Rattle.std.proofs.Common.{[], ◌∷◌, ◌++◌, arith}
use Rattle.wire.specs.Bytes.{Bytes}
use Rattle.decimals.specs.Writer.{RoomFor}
use Rattle.decimals.proofs.Writing.{◌then◌, fits, fits_before, fits_first}
use Rattle.syntax.specs.Message.{read_formula}
use Rattle.pieces.specs.Lines.{rounds_line}
use Rattle.pieces.specs.Pieces.{states_lines, text_in, ended_lines}
use Rattle.pieces.proofs.Texts.{ended_fit}
use Rattle.pieces.proofs.put_settled.Goals as goal
use Rattle.pieces.proofs.put_settled.Goals.{After-shared_slice_known-1}

-- the lines fit
fit : (c : After-shared_slice_known-1) → let a = c.args in RoomFor a.out.now (ended_lines (read_formula a.p a.f.now) a.count a.values.now)
fit c =
    let a = c.args in
    let bytes : Bytes a.f.now = λ i. omega (arith, c.type_inv.f i) in
    ended_fit a.p a.f.now a.count a.values.now a.out.now.at bytes c.requires.few c.requires.room

pub word-requires : goal.word-requires
unfolding ended_lines
word-requires c =
    let a = c.args in
    let first = text_in (read_formula a.p a.f.now) ++ (10 ∷ []) in
    let second = rounds_line a.count in
    fits c.put_text.ensures (10 ∷ []) (fits_first a.out.now first second (fits_first a.out.now (first ++ second) (states_lines a.values.now) (fit (goal.at.word-requires c).After-shared_slice_known-1)))

pub put_line-requires : goal.put_line-requires
unfolding ended_lines rounds_line
put_line-requires c =
    let a = c.args in
    fits_before (c.put_text.ensures then c.word.ensures) (rounds_line a.count) (states_lines a.values.now) (fit (goal.at.put_line-requires c).After-shared_slice_known-1)

pub put_states-requires : goal.put_states-requires
unfolding ended_lines rounds_line
put_states-requires c = record {
  few = c.requires.few;
  fits = fits (c.put_text.ensures then c.word.ensures then c.put_line.ensures) _ (fit (goal.at.put_states-requires c).After-shared_slice_known-1);
}

pub returns : goal.returns
unfolding ended_lines rounds_line
returns c = c.put_text.ensures then c.word.ensures then c.put_line.ensures then c.put_states.ensures
