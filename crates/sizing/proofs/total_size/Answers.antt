-- `sizing::total_size` meets its contract: the sum, and the size of the rows that are left, make the whole.
use Prim.Native.Nat.{◌+◌}
use mathlib.Core.List.{List}
use mathlib.Core.Path.{◌≡◌, sym, ap, ◌∙◌}
use native.Mathlib.Omega.{arith}
use Rattle.lists.specs.Making.{span}
use Rattle.syntax.specs.Format.{place_of}
use Rattle.syntax.specs.declared.Row.{Row}
use Rattle.syntax.specs.Layouts.{row_at}
use Rattle.transitions.specs.Held.{held_model}
use Rattle.transitions.specs.Views.{model_of, rows_of}
use Rattle.sizing.specs.Size.{add_size, size_of, state_edges, rows_edges}
use Rattle.transitions.proofs.Accepted.{states_few, transitions_few, rows_length, rows_after, rows_first, rows_left, rows_none}
use Rattle.sizing.proofs.Sizes.{none_add, add_none, rows_turn, rows_small, Small, small_part}
use Rattle.sizing.proofs.total_size.Goals as goal
use Rattle.sizing.proofs.total_size.Goals.{After-row_total}

-- with the row's size the sum, and the rest, make the whole, and the sum is small
whole : (c : After-row_total) →
    let l = c.loop-i in
    let M = model_of c.args.table.model in
    let f = c.args.f in
    add_size (add_size l.sum c.row_total.result) (size_of (rows_edges M (rows_after f.bytes.now f.rows (l.i + 1)))) ≡ size_of (rows_edges M (rows_of f))
unfolding held_model
whole c =
    let l = c.loop-i in
    let f = c.args.f in
    let M = model_of c.args.table.model in
    let here = sym (ap (λ (rows : List Row). add_size l.sum (size_of (rows_edges M rows))) (rows_left f.bytes.now f.rows l.i c.loop-i-test.true)) in
    let one = sym (c.row_total.ensures ∙ ap (λ (row : Row). size_of (span (state_edges M row) 0 M.states)) c.row.ensures) in
    rows_turn M (row_at f.bytes.now (place_of l.i)) (rows_after f.bytes.now f.rows (l.i + 1)) l.sum c.row_total.result (here ∙ l.invariant) one

fits : (c : After-row_total) → Small 4294967296 (add_size c.loop-i.sum c.row_total.result)
unfolding held_model
fits c =
    let l = c.loop-i in
    let f = c.args.f in
    let M = model_of c.args.table.model in
    let h = c.args.table.model.holds in
    let all = rows_small M (transitions_few h) (states_few h) (rows_of f) in
    let part = small_part (add_size l.sum c.row_total.result) (size_of (rows_edges M (rows_after f.bytes.now f.rows (l.i + 1)))) (whole c) all in
    omega (arith, part.hypers, part.targets, rows_length f.bytes.now f.rows, f.holds.rows_fit)

pub loop-i-init : goal.loop-i-init
loop-i-init c = none_add _ ∙ ap (λ (rows : List Row). size_of (rows_edges (model_of c.args.table.model) rows)) (rows_first c.args.f.bytes.now c.args.f.rows)

pub plus-sum-requires : goal.plus-sum-requires
plus-sum-requires c = omega (arith, fits (goal.at.plus-sum-requires c).After-row_total)

pub loop-i-preserved : goal.loop-i-preserved
loop-i-preserved c = rw c.plus-sum.ensures (whole (goal.at.loop-i-preserved c).After-row_total)

pub returns : goal.returns
unfolding rows_edges size_of
returns c =
    let l = c.loop-i in
    sym (add_none l.sum) ∙ (rw (rows_none c.args.f.bytes.now c.args.f.rows l.i c.loop-i-test.false) at l.invariant)
