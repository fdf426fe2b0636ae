-- `transitions::pass_many` meets its contract: those passed all leave the state, and the others still rise.
use Rattle.std.proofs.Common.{◌≡◌, ◌+◌, ◌-◌, refl, ap, arith}
use Rattle.wire.specs.Bytes.{number}
use Rattle.transitions.specs.Held.{transitions_from, RiseFrom, leading}
use Rattle.transitions.proofs.Ranges.{leading_many}
use Rattle.transitions.proofs.pass_many.Goals as goal
use Rattle.transitions.proofs.pass_many.Goals.{Else-number_at-a}

pub loop-i-init : goal.loop-i-init
loop-i-init c = (omega arith, c.requires.0, refl, c.requires.1)

pub number_at-requires : goal.number_at-requires
number_at-requires c = omega (arith, c.transition_at-last.ensures, c.args.m.holds.long)

pub returns-then-number_at-a : goal.returns-then-number_at-a
returns-then-number_at-a c = let l = c.loop-i in (l.invariant.0, l.invariant.1, l.invariant.2)

-- sixteen more leave the state
more : (c : Else-number_at-a) →
    let a = c.args in
    let i = c.loop-i.i in
    (leading a.a (transitions_from a.m.bytes.now a.m.states i (a.m.transitions - i))
    ≡ 15 + 1 + leading a.a (transitions_from a.m.bytes.now a.m.states (i + (15 + 1)) (a.m.transitions - (i + (15 + 1)))))
    × RiseFrom a.a (transitions_from a.m.bytes.now a.m.states (i + (15 + 1)) (a.m.transitions - (i + (15 + 1))))
more c =
    let a = c.args in
    let l = c.loop-i in
    let at = ap (number 2 a.m.bytes.now) c.transition_at-last.ensures in
    leading_many a.m.bytes.now a.m.states a.m.transitions a.a l.i 15 (omega arith) l.invariant.3 (omega (arith, at, c.number_at.ensures, c.if-number_at-a.false))

pub loop-i-preserved : goal.loop-i-preserved
loop-i-preserved c = let l = c.loop-i in (omega arith, omega arith, omega (arith, (more c).0, l.invariant.2), (more c).1)

pub returns : goal.returns
returns c = let l = c.loop-i in (l.invariant.0, l.invariant.1, l.invariant.2)
