-- `transitions::views::Look::count` meets its contract: those counted, and those to come, make the whole.
use Rattle.std.proofs.Common.{◌≡◌, ◌+◌, ◌-◌, ap, arith}
use mir.Val.{bool_byte}
use Rattle.model.specs.Format.{transition_width, transition_at}
use Rattle.transitions.specs.Held.{transition_layout}
use Rattle.transitions.specs.Views.{is_near_by}
use Rattle.transitions.proofs.Counting.{passing, passing_le, passing_none, passing_turn}
use Rattle.transitions.proofs.views.Look.count.Goals as goal
use Rattle.transitions.proofs.views.Look.count.Goals.{After-is_near-here}

pub loop-init : goal.loop-init
loop-init c =
    let a = c.args in
    let same = ap (passing (transition_layout a.out.bytes.now) (is_near_by a.self) a.out.many) c.start-at.ensures in
    let all : a.out.many - 0 ≡ a.out.many = omega arith in
    (omega (arith, c.start-at.ensures, a.out.reads.long), rw all (omega (arith, same)))

-- one more is near, or not
turn : (c : After-is_near-here) → let l = c.loop in let out = c.args.out in let L = transition_layout out.bytes.now in let test = is_near_by c.args.self in
    passing L test (out.many - l.counter) l.at ≡ bool_byte c.is_near-here.result + passing L test (out.many - (l.counter + 1)) (l.at + transition_width)
turn c =
    let l = c.loop in
    let a = c.args in
    let L = transition_layout a.out.bytes.now in
    let one = passing_turn L (is_near_by a.self) (a.out.many - l.counter) l.at (omega arith) c.is_near-here.result c.is_near-here.ensures in
    let less : a.out.many - l.counter - 1 ≡ a.out.many - (l.counter + 1) = omega arith in
    rw less at one

pub overflow_add-near : goal.overflow_add-near
overflow_add-near c =
    let a = c.args in
    omega (arith, turn (goal.at.overflow_add-near c).After-is_near-here, passing_le (transition_layout a.out.bytes.now) (is_near_by a.self) a.out.many (transition_at a.out.states a.out.first))

pub loop-preserved : goal.loop-preserved
loop-preserved c = (omega arith, omega (arith, turn (goal.at.loop-preserved c).After-is_near-here))

pub returns : goal.returns
returns c =
    let l = c.loop in
    let out = c.args.out in
    omega (arith, passing_none (transition_layout out.bytes.now) (is_near_by c.args.self) (out.many - l.counter) l.at (omega arith))
