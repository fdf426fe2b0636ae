-- `halves::between` meets its contract: the numbers below i are the same.
use mathlib.Core.Path.{refl}
use native.Mathlib.Omega.{arith}
use Rattle.lists.proofs.Tests.{clash}
use Rattle.halves.proofs.Room.{level_more}
use Rattle.halves.proofs.between.Goals as goal

pub loop-i-init : goal.loop-i-init
loop-i-init c = (omega arith, λ v l h. absurd (omega arith))

pub alike-requires : goal.alike-requires
alike-requires c = record { k_bound = omega (arith, c.requires.to_le_n); n_in_bounds = c.requires.n_in_bounds }

pub returns-then-not-alike : goal.returns-then-not-alike
returns-then-not-alike c = (
  λ e. clash e refl,
  λ e all. c.alike.ensures.1 c.if-not-alike.true (λ v h. all _ (omega (arith, c.loop-i.invariant.0)) (omega (arith, c.block-k.ensures, c.loop-i-test.true))),
)

pub loop-i-preserved : goal.loop-i-preserved
loop-i-preserved c =
    let a = c.args in
    let l = c.loop-i in
    (omega (arith, l.invariant.0), level_more a.n l.i _ a.room.now l.invariant.1 (c.alike.ensures.0 c.if-not-alike.false))

pub returns : goal.returns
returns c = (λ e v l h. c.loop-i.invariant.1 v l (omega arith), λ e. clash refl e)
