-- `graph::Reading::past_fours` meets its contract: so far all targets of the fours that were passed name nodes.
use mathlib.Core.Path.{refl}
use native.Mathlib.Omega.{arith}
use Rattle.lists.proofs.Tests.{by}
use Rattle.graph.specs.Names.{all_named}
use Rattle.graph.proofs.Names.{four_more, fours_all, fours_not}
use Rattle.graph.proofs.Reading.past_fours.Goals as goal

pub loop-at-init : goal.loop-at-init
unfolding all_named
loop-at-init c = record { many = 0; reached = omega arith; before = c.requires.0; named = refl }

pub returns-then-not-four_named : goal.returns-then-not-four_named
returns-then-not-four_named c =
    fours_not _ _ c.loop-at.invariant (omega arith) (by c.four_named.ensures c.if-not-four_named.true)

pub loop-at-preserved : goal.loop-at-preserved
loop-at-preserved c =
    four_more _ _ c.loop-at.invariant (omega arith) (by c.four_named.ensures c.if-not-four_named.false)

pub returns : goal.returns
returns c = fours_all _ _ c.loop-at.invariant (omega arith)
