-- `decimals::Writer::long` meets its contract: the digits of the number's tenth part come first, then its last digit.
use Rattle.std.proofs.Common.{ℕ, ◌%◌, [], ◌∷◌, length, ap, arith}
use Rattle.decimals.specs.Decimal.{digit}
use Rattle.decimals.specs.Writer.{Wrote}
use Rattle.decimals.proofs.Decimal.{front, front_none, front_some, front_length, decimal_last}
use Rattle.decimals.proofs.Writing.{nothing, ◌then◌, fits, said}
use Rattle.decimals.proofs.Writer.+long.Goals as goal
use Rattle.decimals.proofs.Writer.+long.Goals.{Joined-n-ge10, then-n-ge10, else-n-ge10}

-- all digits but the last are written
front_written : (t : ℕ) (c : Joined-n-ge10 t) → Wrote c.args.self.now (front 20 c.args.n) c.if-n-ge10.self
front_written t c =
    let n = c.args.n in
    elim c.if-n-ge10.branch [
      | then-n-ge10 w ↦ rw w.self-is (said w.long.ensures (front_some 20 n (omega arith)))
      | else-n-ge10 w ↦ rw w.self-is (said (nothing _ (omega arith)) (front_none 20 n (omega arith)))
    ]

pub long-requires : goal.long-requires
long-requires t c =
    let n = c.args.n in
    (omega arith, omega (arith, front_length 18 n (omega arith), ap length (front_some 20 n (omega arith))))

pub word-requires : goal.word-requires
word-requires t c =
    fits (front_written t (goal.at.word-requires t c).Joined-n-ge10) (digit (c.args.n % 10) ∷ []) (rw (← decimal_last 18 c.args.n (omega arith)) c.requires)

pub returns : goal.returns
returns t c = said (front_written t (goal.at.returns t c).Joined-n-ge10 then c.word.ensures) (decimal_last 18 _ (omega arith))
