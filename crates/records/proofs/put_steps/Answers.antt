-- `records::put_steps` meets its contract: what is written for the transitions left makes the whole.
use Prim.Native.Nat.{◌+◌, ◌-◌, ◌<◌, ◌≤◌}
use mathlib.Core.Path.{◌≡◌, refl}
use native.Mathlib.Omega.{arith}
use lib.ListN.{length}
use Rattle.model.specs.Format.{transition_width}
use Rattle.records.proofs.Edges.{filling_all, filling_none, next_readable, next_named, next_fits, next_filled}
use Rattle.records.proofs.put_steps.Goals as goal
use Rattle.records.proofs.put_steps.Goals.{In-loop}

pub loop-init : goal.loop-init
loop-init c =
    let out = c.args.out in
    let all : out.many - 0 ≡ out.many = omega arith in
    rw all (filling_all _ _ _ out.reads c.requires.named _ _ _ refl c.requires.inside c.start-p.ensures)

-- the next transition is there, and lies inside
some : (c : In-loop) → 0 < c.args.out.many - c.loop.counter
some c = omega (arith, c.loop-test.true)

inside : (c : In-loop) → c.loop.p + transition_width ≤ length c.args.out.bytes.now
inside c = next_readable _ _ _ c.loop.invariant (some c)

pub overflow_add-p : goal.overflow_add-p
overflow_add-p c = omega (arith, inside (goal.at.overflow_add-p c).In-loop)

pub number_at-weight-requires : goal.number_at-weight-requires
number_at-weight-requires c = omega (arith, inside (goal.at.number_at-weight-requires c).In-loop)

pub overflow_add-p-in-loop : goal.overflow_add-p-in-loop
overflow_add-p-in-loop c = omega (arith, inside (goal.at.overflow_add-p-in-loop c).In-loop)

pub number_at-to-requires : goal.number_at-to-requires
number_at-to-requires c = omega (arith, inside (goal.at.number_at-to-requires c).In-loop)

pub overflow_add-to : goal.overflow_add-to
overflow_add-to c =
    omega (arith, next_named _ _ _ c.loop.invariant (some (goal.at.overflow_add-to c).In-loop) c.number_at-to.ensures, c.requires.shift_fits)

pub put_step-next-requires : goal.put_step-next-requires
put_step-next-requires c =
    next_fits _ _ _ c.loop.invariant (some (goal.at.put_step-next-requires c).In-loop) c.number_at-weight.ensures c.number_at-to.ensures

pub overflow_add-p-in-loop-2 : goal.overflow_add-p-in-loop-2
overflow_add-p-in-loop-2 c = omega (arith, inside (goal.at.overflow_add-p-in-loop-2 c).In-loop)

pub loop-preserved : goal.loop-preserved
loop-preserved c =
    let less : c.args.out.many - c.loop.counter - 1 ≡ c.args.out.many - (c.loop.counter + 1) = omega arith in
    rw less at (next_filled _ _ _ c.loop.invariant (some (goal.at.loop-preserved c).In-loop) c.number_at-weight.ensures c.number_at-to.ensures c.put_step-next.ensures)

pub shape_of-room : goal.shape_of-room
shape_of-room c = c.loop.invariant.left.length_is

pub returns : goal.returns
returns c = filling_none _ _ _ c.loop.invariant (omega (arith, c.loop-test.false))
