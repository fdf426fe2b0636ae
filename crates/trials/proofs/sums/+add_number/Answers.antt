use Rattle.std.proofs.Common.{◌≡◌, ℕ, ◌%◌, sym, refl, ap, ◌∙◌, arith}
use Rattle.wire.specs.Bytes.{bytes}
use Rattle.trials.specs.Sums.{after, after_all}
use Rattle.trials.proofs.Adding.{after_last}
use Rattle.trials.proofs.sums.+add_number.Goals as goal

pub returns-then-k-gt0 : goal.returns-then-k-gt0
returns-then-k-gt0 t c =
    let a = c.args in
    c.add.ensures
    ∙ ap (λ (x : ℕ). after x (a.n % 256)) c.add_number-before.ensures
    ∙ sym (after_last a.sum a.n a.k c.if-k-gt0.true)

pub returns : goal.returns
unfolding after_all bytes
returns t c = let h : c.args.k ≡ 0 = omega arith in rw h refl
