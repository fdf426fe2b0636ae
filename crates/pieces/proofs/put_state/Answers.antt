-- `pieces::put_state` meets its contract: the state, and yes or no with the end of the line.
use Rattle.std.proofs.Common.{◌≡◌, [], ◌∷◌, ◌++◌}
use Rattle.decimals.proofs.Writing.{◌then◌, said}
use Rattle.pieces.specs.Lines.{answer_word}
use Rattle.pieces.proofs.Lines.{state_parts}
use Rattle.pieces.proofs.put_state.Goals as goal
use Rattle.pieces.proofs.put_state.Goals.{Joined-yes, then-yes, else-yes}

-- which word it is
word_is : (c : Joined-yes) → answer_word c.args.yes ++ (10 ∷ []) ≡ c.if-yes.word.now
word_is c =
    elim c.if-yes.branch [
      | then-yes w ↦ rw (w.word-is, w.if-yes.true)
      | else-yes w ↦ rw (w.word-is, w.if-yes.false)
    ]

pub returns : goal.returns
returns c =
    said (c.decimal.ensures then said c.word.ensures (word_is (goal.at.returns c).Joined-yes)) (state_parts c.args.yes c.args.a)
