-- `ordered::in_order` meets its contract: what is left to be tested from a record on, whose source was read, is the whole test.
use Prim.Native.Nat.{◌+◌, ◌*◌, ◌-◌, ◌≤◌}
use mathlib.Core.Path.{◌≡◌, refl, sym, ◌∙◌}
use lib.ListN.{length}
use native.Mathlib.Omega.{arith}
use Rattle.ordered.specs.Ordered.{record_width}
use Rattle.wire.proofs.Reading.{never, good_same}
use Rattle.ordered.proofs.Told.{field_alone}
use Rattle.ordered.proofs.Left.{left_less, order_none, Left, left_begins, left_fails, left_passes, left_last}
use Rattle.ordered.proofs.in_order.Goals as goal
use Rattle.ordered.proofs.in_order.Goals.{Else-k-eq0, In-Some, In-Some-next_source-2}

-- the first record and so many behind it, so that its source fits
first_left : (c : Else-k-eq0) → let a = c.args in
    a.first + record_width a.target + (a.k - 1) * record_width a.target ≡ a.first + a.k * record_width a.target
first_left c =
    let a = c.args in
    let w = record_width a.target in
    left_less a.k w a.first (a.first + a.k * w) refl (omega arith)

first_fits : (c : Else-k-eq0) → let a = c.args in a.first + 2 ≤ length a.s.now
first_fits c = omega (arith, first_left c)

-- the first of a turn was passed
between : (c : In-Some) → let a = c.args in
    Left a.s.now a.n a.target a.k a.first (a.first + a.k * record_width a.target)
    c.in-Some.between
    (c.loop-at.at + record_width a.target)
between c =
    left_passes _ _ _ c.loop-at.invariant (omega arith) refl c.next_source.ensures c.in-Some.is refl

-- behind the loop, the one before the last was passed
last_left : (c : In-Some-next_source-2) → let a = c.args in
    Left a.s.now a.n a.target a.k a.first (a.first + a.k * record_width a.target)
    c.in-Some-next_source-2.last
    (c.loop-at.at + record_width a.target)
last_left c =
    left_passes _ _ _ c.loop-at.invariant c.if-at-width.true refl c.next_source-then-at-width.ensures c.in-Some-next_source-2.is refl

pub returns-then-k-eq0 : goal.returns-then-k-eq0
returns-then-k-eq0 c = order_none _ _ _ _ _ c.if-k-eq0.true

pub returns-in_default : goal.returns-in_default
returns-in_default c =
    absurd (never (sym c.in_default.is ∙ c.read.ensures ∙ field_alone 2 _ _ (first_fits (goal.at.returns-in_default c).Else-k-eq0)))

pub loop-at-init : goal.loop-at-init
loop-at-init c =
    let source = good_same (c.in-Ok.ensures ∙ field_alone 2 _ _ (first_fits (goal.at.loop-at-init c).Else-k-eq0)) in
    left_begins _ _ _ _ _ (omega arith) (omega arith) source

pub returns-in_default-next_source : goal.returns-in_default-next_source
returns-in_default-next_source c =
    left_fails _ _ _ c.loop-at.invariant (omega arith) refl c.next_source.ensures c.in_default-next_source.is

pub returns-in_default-next_source-2 : goal.returns-in_default-next_source-2
returns-in_default-next_source-2 c =
    left_fails _ _ _ (between (goal.at.returns-in_default-next_source-2 c).In-Some) (omega arith) (omega arith) c.next_source-in-loop-at.ensures c.in_default-next_source-2.is

pub loop-at-preserved : goal.loop-at-preserved
loop-at-preserved c =
    left_passes _ _ _ (between (goal.at.loop-at-preserved c).In-Some) (omega arith) (omega arith) c.next_source-in-loop-at.ensures c.in-Some-next_source.is (omega arith)

pub returns-in_default-next_source-3 : goal.returns-in_default-next_source-3
returns-in_default-next_source-3 c =
    left_fails _ _ _ c.loop-at.invariant c.if-at-width.true refl c.next_source-then-at-width.ensures c.in_default-next_source-3.is

pub returns-then-at-width : goal.returns-then-at-width
returns-then-at-width c = c.last_named.ensures ∙ left_last _ _ _ (last_left (goal.at.returns-then-at-width c).In-Some-next_source-2) (omega arith)

pub returns : goal.returns
returns c = c.last_named-2.ensures ∙ left_last _ _ _ c.loop-at.invariant c.if-at-width.false
