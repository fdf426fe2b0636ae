-- `wording::put_row` meets its contract: operands are earlier rows; the pieces are written one after another.
use Rattle.std.proofs.Common.{◌≡◌, ℕ, length, sym, ap, ◌∙◌, arith}
use mathlib.Core.Logic.{⊎_elim}
use Rattle.lists.proofs.Places.{first, second}
use Rattle.decimals.specs.Decimal.{word}
use Rattle.decimals.proofs.Writing.{◌then◌, fits, fits_before, said}
use Rattle.wording.proofs.Rows.{around, read_made, read_long, read_operand, sign, sign_length, both_made, both_long, left, right}
use Rattle.wording.proofs.+put_row.Goals as goal
use Rattle.wording.proofs.+put_row.Goals.{Joined-row-2, in-And-row, in_default}

pub put_row-requires : goal.put_row-requires
put_row-requires t c =
    let o = read_operand _ _ c.requires.ready c.row_at-row.ensures c.in-Next.is _ first in
    (omega arith, (o.ready, fits c.put_next.ensures _ (rw (← read_made _ _ c.requires.ready c.row_at-row.ensures c.in-Next.is) c.requires.fits)))

pub put_row-requires-in-Until : goal.put_row-requires-in-Until
put_row-requires-in-Until t c =
    let o = read_operand _ _ c.requires.ready c.row_at-row.ensures c.in-Until.is _ first in
    (omega arith, (o.ready, omega (arith, read_long _ _ c.requires.ready c.row_at-row.ensures c.in-Until.is, around c.in-Until.q c.in-Until.b)))

pub put_bounded-requires : goal.put_bounded-requires
put_bounded-requires t c = omega (arith, read_long _ _ c.requires.ready c.row_at-row.ensures c.in-Until.is, around c.in-Until.q c.in-Until.b)

pub put_row-requires-in-Until-2 : goal.put_row-requires-in-Until-2
put_row-requires-in-Until-2 t c =
    let o = read_operand _ _ c.requires.ready c.row_at-row.ensures c.in-Until.is _ second in
    let put = c.put_quantifier.ensures then c.word-in-Until.ensures then c.put_row-in-Until.ensures then c.put_bounded.ensures in
    (omega arith, (o.ready, fits_before put _ (word "]") (rw (← read_made _ _ c.requires.ready c.row_at-row.ensures c.in-Until.is) c.requires.fits)))

pub word-requires-in-Until-2 : goal.word-requires-in-Until-2
word-requires-in-Until-2 t c =
    let put = c.put_quantifier.ensures then c.word-in-Until.ensures then c.put_row-in-Until.ensures then c.put_bounded.ensures then c.put_row-in-Until-2.ensures in
    fits put (word "]") (rw (← read_made _ _ c.requires.ready c.row_at-row.ensures c.in-Until.is) c.requires.fits)

-- the sign that is written is the operator's
sign_is : (t : ℕ) (c : Joined-row-2 t) → sign c.row_at-row.result ≡ c.match-row-2.word.now
sign_is t c =
    elim c.match-row-2.branch [
      | in-And-row w ↦ rw w.word-is (ap sign (sym c.in-And.row-is ∙ w.in-And-row.is))
      | in_default w ↦ rw w.word-is (⊎_elim (λ e. absurd (w.in_default.not-And _ _ (c.in-And.row-is ∙ e))) (λ e. ap sign e) c.in-And.is)
    ]

pub put_row-requires-in-And : goal.put_row-requires-in-And
put_row-requires-in-And t c =
    let o = left _ _ c.requires.ready c.row_at-row.ensures c.in-And.is in
    (omega arith, (o.ready, omega (arith, both_long _ _ c.requires.ready c.row_at-row.ensures c.in-And.is)))

pub put_row-requires-in-And-2 : goal.put_row-requires-in-And-2
put_row-requires-in-And-2 t c =
    let o = right _ _ c.requires.ready c.row_at-row.ensures c.in-And.is in
    (omega arith, (o.ready, omega (arith, both_long _ _ c.requires.ready c.row_at-row.ensures c.in-And.is, sign_length c.row_at-row.result, ap length (sign_is t (goal.at.put_row-requires-in-And-2 t c).Joined-row-2))))

pub returns-in-Until : goal.returns-in-Until
returns-in-Until t c =
    let put = c.put_quantifier.ensures then c.word-in-Until.ensures then c.put_row-in-Until.ensures then c.put_bounded.ensures then c.put_row-in-Until-2.ensures then c.word-in-Until-2.ensures in
    said put (read_made _ _ c.requires.ready c.row_at-row.ensures c.in-Until.is)

pub returns-after-row-2 : goal.returns-after-row-2
returns-after-row-2 t c =
    let infixed = said c.word-in-And-2.ensures (sign_is t (goal.at.returns-after-row-2 t c).Joined-row-2) in
    let put = c.word-in-And.ensures then c.put_row-in-And.ensures then infixed then c.put_row-in-And-2.ensures then c.word-in-And-3.ensures in
    said put (both_made _ _ c.requires.ready c.row_at-row.ensures c.in-And.is)
