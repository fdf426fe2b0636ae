-- `message::put_helpers` meets its contract: the helpers of the rows left make the whole.
use Prim.Native.Nat.{◌+◌, ◌-◌, ◌<◌}
use mathlib.Core.Path.{◌≡◌, sym, ap, ◌∙◌}
use native.Mathlib.Omega.{arith}
use Rattle.syntax.specs.Format.{row_width, place_of}
use Rattle.reduction.specs.Built.{is_until}
use Rattle.transitions.specs.Held.{held_model}
use Rattle.sizing.proofs.Untils.{not_until}
use Rattle.build.proofs.Helpers.{rows_all, rows_none, until_fit, until_fits, until_then, other_then}
use Rattle.build.proofs.message.put_helpers.Goals as goal
use Rattle.build.proofs.message.put_helpers.Goals.{In-loop-i}

-- rows are left, and behind the next stand the others
some : (c : In-loop-i) → 0 < c.args.f.rows - c.loop-i.i
some c = omega (arith, c.loop-i-test.true)

less : (c : In-loop-i) → c.args.f.rows - c.loop-i.i - 1 ≡ c.args.f.rows - (c.loop-i.i + 1)
less c = omega arith

there : (c : In-loop-i) → place_of c.loop-i.i + row_width ≡ place_of (c.loop-i.i + 1)
there c = omega arith

pub loop-i-init : goal.loop-i-init
loop-i-init c =
    let f = c.args.f in
    let all : f.rows - 0 ≡ f.rows = omega arith in
    rw all (rows_all f.holds c.requires.helpers_fit c.args.room.now c.args.at c.requires.inside)

pub put_helper_states-next-requires : goal.put_helper_states-next-requires
unfolding held_model
put_helper_states-next-requires c =
    let inv = c.loop-i.invariant in
    let more = some (goal.at.put_helper_states-next-requires c).In-loop-i in
    let until = sym c.row.ensures ∙ c.in-Until.is in
    let fit = until_fit inv more until in
    record { nodes_fit = (fit.0, fit.1, fit.2); narrow = fit.3; inside = until_fits inv more until }

pub overflow_add-h : goal.overflow_add-h
overflow_add-h c = omega (arith, c.loop-i.invariant.few)

pub loop-i-preserved : goal.loop-i-preserved
loop-i-preserved c =
    let place = (goal.at.loop-i-preserved c).In-loop-i in
    rw (less place, there place) at (until_then c.loop-i.invariant (some place) (sym c.row.ensures ∙ c.in-Until.is) c.put_helper_states-next.ensures)

pub loop-i-preserved-in_default : goal.loop-i-preserved-in_default
loop-i-preserved-in_default c =
    let place = (goal.at.loop-i-preserved-in_default c).In-loop-i in
    let other = ap is_until (sym c.row.ensures) ∙ not_until c.row.result c.in_default.not-Until in
    rw (less place, there place) at (other_then c.loop-i.invariant (some place) other)

pub shape_of-room : goal.shape_of-room
shape_of-room c = c.loop-i.invariant.left.length_is

pub returns : goal.returns
returns c = rows_none c.loop-i.invariant (omega (arith, c.loop-i-test.false))
