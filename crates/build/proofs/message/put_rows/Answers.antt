-- `message::put_rows` meets its contract: the hyperedges of the rows left, and how many they are, make the whole.
use Prim.Native.Nat.{ℕ, ◌+◌}
use mathlib.Core.List.{List, ◌++◌}
use mathlib.Core.Path.{◌≡◌, refl, ap, ◌∙◌}
use native.Mathlib.Nat.{zero-add}
use native.Mathlib.Omega.{arith}
use lib.ListN.{length}
use Rattle.wire.proofs.Laid.{all_left, left_fits, left_then, none_left}
use Rattle.syntax.specs.declared.Row.{Row}
use Rattle.reduction.specs.Built.{layout}
use Rattle.transitions.specs.Held.{held_model}
use Rattle.transitions.specs.Views.{model_of, rows_of}
use Rattle.transitions.proofs.Accepted.{rows_after, rows_first, rows_left, rows_none as rows_past}
use Rattle.records.specs.Bytes.{row_hypers, rows_hypers, row_bytes, rows_bytes}
use Rattle.build.proofs.Nodes.{rows_more, rows_count, rows_bytes_lem, rows_none, row_fits}
use Rattle.build.proofs.message.put_rows.Goals as goal
use Rattle.build.proofs.message.put_rows.Goals.{After-hypers_in-hypers, After-row-row}

-- the row's bytes come next, and the other rows' behind them
abbrev here : After-row-row → List ℕ
here c = row_bytes (model_of c.args.table.model) c.loop-r.r c.row-row.result

abbrev behind : After-row-row → List ℕ
behind c = let r = c.loop-r.r + 1 in rows_bytes (model_of c.args.table.model) r (rows_after c.args.f.bytes.now c.args.f.rows r)

parts : (c : After-row-row) → rows_bytes (model_of c.args.table.model) c.loop-r.r (rows_after c.args.f.bytes.now c.args.f.rows c.loop-r.r) ≡ here c ++ behind c
parts c =
    let M = model_of c.args.table.model in
    let r = c.loop-r.r in
    rw c.row-row.ensures (ap (rows_bytes M r) (rows_left c.args.f.bytes.now c.args.f.rows r c.loop-r-test.true) ∙ rows_more M r _ _)

-- so it is with how many they are
counts : (c : After-row-row) →
    let M = model_of c.args.table.model in
    let f = c.args.f in
    let r = c.loop-r.r in
    length (rows_hypers M r (rows_after f.bytes.now f.rows r)) ≡ length (row_hypers M r c.row-row.result) + length (rows_hypers M (r + 1) (rows_after f.bytes.now f.rows (r + 1)))
counts c =
    let M = model_of c.args.table.model in
    let r = c.loop-r.r in
    rw c.row-row.ensures
    (ap (λ (rows : List Row). length (rows_hypers M r rows)) (rows_left c.args.f.bytes.now c.args.f.rows r c.loop-r-test.true) ∙ rows_count M r _ _)

counted : (c : After-hypers_in-hypers) → c.hypers_in-hypers.result ≡ length (row_hypers (model_of c.args.table.model) c.loop-r.r c.row-row.result)
unfolding held_model
counted c = c.hypers_in-hypers.ensures (model_of c.args.table.model) c.loop-r.r refl (omega (arith, c.put_row_states-end.ensures.next_is))

pub loop-r-init : goal.loop-r-init
loop-r-init c =
    let f = c.args.f in
    rw (rows_first f.bytes.now f.rows) (all_left _ _ _ c.requires.inside, zero-add _)

pub put_row_states-end-requires : goal.put_row_states-end-requires
put_row_states-end-requires c =
    let place = (goal.at.put_row_states-end-requires c).After-row-row in
    let fits = row_fits c.args.f.holds c.args.table.model.states c.loop-r.r c.requires.nodes_fit c.loop-r-test.true in
    record { row_fits = rw c.row-row.ensures fits; inside = left_fits c.loop-r.invariant.0 (here place) (behind place) (parts place) }

pub overflow_sub-end : goal.overflow_sub-end
overflow_sub-end c = omega (arith, c.put_row_states-end.ensures.next_is)

pub overflow_add-hypers : goal.overflow_add-hypers
overflow_add-hypers c =
    let place = goal.at.overflow_add-hypers c in
    omega (
      arith,
      c.loop-r.invariant.1,
      counts place.After-row-row,
      counted place.After-hypers_in-hypers,
      rows_bytes_lem (model_of c.args.table.model) (rows_of c.args.f),
      c.requires.inside,
    )

pub loop-r-preserved : goal.loop-r-preserved
loop-r-preserved c =
    let l = c.loop-r in
    let place = goal.at.loop-r-preserved c in
    let row = place.After-row-row in
    (left_then l.invariant.0 (here row) (behind row) (parts row) c.put_row_states-end.ensures, omega (arith, l.invariant.1, counts row, counted place.After-hypers_in-hypers))

pub shape_of-room : goal.shape_of-room
shape_of-room c = c.loop-r.invariant.0.length_is

pub returns : goal.returns
unfolding layout
returns c =
    let l = c.loop-r in
    let none = rows_past c.args.f.bytes.now c.args.f.rows l.r c.loop-r-test.false in
    record { laid = none_left (rw (none, rows_none) at l.invariant.0); hypers_value = omega (arith, rw none at l.invariant.1) }
