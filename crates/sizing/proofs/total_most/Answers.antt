-- `sizing::total_most` meets its contract: the sum, and the size of the rows that are left, are no less than the whole.
use Prim.Native.Nat.{◌+◌}
use native.Mathlib.Omega.{arith}
use Rattle.syntax.specs.Format.{place_of}
use Rattle.syntax.specs.Layouts.{row_at}
use Rattle.transitions.specs.Held.{held_model}
use Rattle.transitions.specs.Views.{model_of}
use Rattle.transitions.proofs.Accepted.{rows_after, rows_first, rows_left, rows_none}
use Rattle.sizing.specs.Size.{size_of, rows_edges}
use Rattle.sizing.proofs.Sizes.{most_all, most_turn, most_done}
use Rattle.sizing.proofs.total_most.Goals as goal

pub loop-i-init : goal.loop-i-init
loop-i-init c = (omega arith, omega arith, rw (rows_first c.args.f.bytes.now c.args.f.rows) (most_all _))

pub plus-sum-requires : goal.plus-sum-requires
plus-sum-requires c =
    let l = c.loop-i in
    omega (arith, l.invariant, c.row_most.ensures.hypers_bound, c.args.f.holds.rows_fit)

pub loop-i-preserved : goal.loop-i-preserved
unfolding held_model
loop-i-preserved c =
    let l = c.loop-i in
    let f = c.args.f in
    let M = model_of c.args.table.model in
    let one = c.row_most.result in
    let here = rw (rows_left f.bytes.now f.rows l.i c.loop-i-test.true) at l.invariant.2 in
    let few = rw c.row.ensures at c.row_most.ensures.size_of in
    rw c.plus-sum.ensures (
      omega (arith, l.invariant.0, c.row_most.ensures.hypers_bound),
      omega (arith, l.invariant.1, c.row_most.ensures.hypers_bound),
      most_turn M (row_at f.bytes.now (place_of l.i)) (rows_after f.bytes.now f.rows (l.i + 1)) l.sum one here few,
    )

pub returns : goal.returns
unfolding rows_edges size_of
returns c =
    let l = c.loop-i in
    most_done l.sum (rw (rows_none c.args.f.bytes.now c.args.f.rows l.i c.loop-i-test.false) at l.invariant.2)
