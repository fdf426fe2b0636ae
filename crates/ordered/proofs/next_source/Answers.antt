-- `ordered::next_source` meets its contract: the number that was read is the target above and the source below.
use Rattle.std.proofs.Common.{◌≡◌, ◌+◌, ◌%◌, refl, sym, ap, ◌∙◌, arith, ltb, true, le-leb, cond}
use mathlib.Core.Bool.{and-false}
use borrow.Author.Tests.{lt-leb}
use Rattle.refusal.specs.declared.Refusal.TheVariants.{Name}
use Rattle.refusal.specs.Number.{unplaced}
use Rattle.std.specs.Prelude.{Some}
use Rattle.wire.specs.Bytes.{number}
use Rattle.wire.specs.Read.{Ok, Err}
use Rattle.wire.proofs.Bytes.{two_and_two}
use Rattle.ordered.specs.Ordered.{source_behind}
use Rattle.ordered.proofs.Told.{both_alone, told_ok, told_passes}
use Rattle.ordered.proofs.next_source.Goals as goal
use Rattle.ordered.proofs.next_source.Goals.{In_ok-both, After-read_below}

-- both are read from their part as from the message, and tested by the target
read_both : (c : After-read_below) → let a = c.args in
    c.read_below.result ≡ cond (ltb (number 2 a.s.now a.at) a.n) (Ok (number 4 a.s.now a.at)) (Err (unplaced Name))
read_both c = c.read_below.ensures ∙ both_alone _ _ _ _ (λ i. omega (arith, c.type_inv.s i)) (omega arith)

-- the target passed, and the source is what is left
passed : (c : In_ok-both) → let a = c.args in
    (ltb (number 2 a.s.now a.at) a.n ≡ true) × (c.in_ok-both.both % 65536 ≡ number 2 a.s.now (a.at + 2))
passed c =
    let a = c.args in
    let read = told_passes (ltb (number 2 a.s.now a.at) a.n) (number 4 a.s.now a.at) (unplaced Name) (c.read_below.ensures ∙ both_alone _ _ _ _ (λ i. omega (arith, c.type_inv.s i)) (omega arith)) c.in_ok-both.ensures.value in
    let both = two_and_two a.s.now a.at (λ i. omega (arith, c.type_inv.s i)) in
    (read.0, omega (arith, both, read.1))

pub returns-in_err-both : goal.returns-in_err-both
unfolding source_behind
returns-in_err-both c =
    let fails = sym (c.in_err-both.ensures.variant ∙ told_ok _ _ _ (read_both (goal.at.returns-in_err-both c).After-read_below)) in
    rw fails c.from_residual.ensures

pub returns-then-source-before : goal.returns-then-source-before
unfolding source_behind
returns-then-source-before c =
    let a = c.args in
    let p = passed (goal.at.returns-then-source-before c).In_ok-both in
    rw (lt-leb a.before (number 2 a.s.now (a.at + 2)) (omega (arith, p.1)), and-false) refl

pub returns : goal.returns
unfolding source_behind
returns c =
    let a = c.args in
    let p = passed (goal.at.returns c).In_ok-both in
    rw (p.0, le-leb a.before (number 2 a.s.now (a.at + 2)) (omega (arith, p.1))) (ap Some p.1)
