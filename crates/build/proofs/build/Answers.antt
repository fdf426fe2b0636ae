-- `build::build` meets its contract: its tests are those of the graph's size and of the rooms, and what it writes is the graph.
use Prim.Native.Nat.{ℕ, ◌+◌, ◌*◌, ◌≤◌}
use mathlib.Core.Path.{◌≡◌, refl, sym, ap, ◌∙◌}
use mathlib.Core.Bool.{true, not, ◌&&◌, not-not}
use native.Mathlib.Nat.{mul-le-mul_left}
use native.Mathlib.Omega.{arith}
use lib.ListN.{length}
use Rattle.reduction.specs.Built.{untils, graph_of}
use Rattle.transitions.specs.declared.views.AcceptedModel.{AcceptedModel}
use Rattle.transitions.specs.declared.views.AcceptedRows.{AcceptedRows}
use Rattle.transitions.specs.Held.{held_model}
use Rattle.transitions.specs.Views.{model_of, rows_of}
use Rattle.sizing.specs.declared.Size.{Size}
use Rattle.sizing.specs.Size.{size_of, rows_edges}
use Rattle.build.specs.Built.{fits, roomy}
use Rattle.transitions.proofs.Accepted.{states_few, rows_length}
use Rattle.build.proofs.Parts.{Counted, limits_are, enough_are, enough_less, size_refused, room_refused, writable, graph_built}
use Rattle.build.proofs.Writing.{untils_few}
use Rattle.build.proofs.build.Goals as goal
use Rattle.build.proofs.build.Goals.{After-is_enough-2, After-count_untils-untils, After-too_large, Then-is_enough}

module _ (m : AcceptedModel) (f : AcceptedRows) (u : ℕ) (are : u ≡ length (untils (rows_of f))) where
  -- what was counted, with the size that it has
  counted : (z : Size) → z ≡ size_of (rows_edges (model_of m) (rows_of f)) → Counted (model_of m) (rows_of f) m.states f.rows u z
  unfolding held_model
  counted z is = record { states_are = refl; rows_are = rows_length _ _; untils_are = are; size_is = is }

  -- few nodes, and no more cover edges
  nodes_few : (f.rows + u ≤ 128) × (m.states * (f.rows + u) ≤ 32768) × (m.states * u ≤ m.states * (f.rows + u))
  nodes_few =
      let few : f.rows + u ≤ 128 = omega (arith, are, untils_few f.holds, f.holds.rows_fit) in
      let all : m.states * (f.rows + u) ≤ m.states * 128 = mul-le-mul_left m.states few in
      (few, omega (arith, states_few m.holds), mul-le-mul_left m.states (omega arith))

pub overflow_add-nodes : goal.overflow_add-nodes
overflow_add-nodes c = let u = c.count_untils-untils in omega (arith, nodes_few c.args.m c.args.f u.result u.ensures)

pub overflow_mul-nodes : goal.overflow_mul-nodes
overflow_mul-nodes c = let u = c.count_untils-untils in omega (arith, nodes_few c.args.m c.args.f u.result u.ensures)

pub overflow_mul-covers : goal.overflow_mul-covers
overflow_mul-covers c = let u = c.count_untils-untils in omega (arith, nodes_few c.args.m c.args.f u.result u.ensures)

pub invariant_of-table : goal.invariant_of-table
invariant_of-table c = let starts = c.starts-starts.ensures in record { long = omega (arith, starts.0, states_few c.args.m.holds); right = starts.1 }

pub is_enough-requires : goal.is_enough-requires
is_enough-requires c = let u = c.count_untils-untils in (nodes_few c.args.m c.args.f u.result u.ensures).2

-- what is enough for no less than the graph is enough for it
certain : (c : Then-is_enough) → let g = graph_of (model_of c.args.m) (rows_of c.args.f) in (fits g && roomy g c.args.room.now c.args.values) ≡ true
certain c =
    let u = c.count_untils-untils in
    let less = enough_less _ _ _ _ c.total_most-most.ensures (sym c.is_enough.ensures ∙ c.if-is_enough.true) in
    sym (enough_are (counted c.args.m c.args.f u.result u.ensures (size_of (rows_edges (model_of c.args.m) (rows_of c.args.f))) refl) c.args.room.now c.args.values) ∙ less

pub write-requires : goal.write-requires
write-requires c = record { untils_value = c.count_untils-untils.ensures; writable = writable _ _ _ (certain (goal.at.write-requires c).Then-is_enough) }

pub returns-then-is_enough : goal.returns-then-is_enough
returns-then-is_enough c = let built = graph_built _ _ _ (certain (goal.at.returns-then-is_enough c).Then-is_enough) c.write.ensures in record { value = built.0; room_after = built.1 }

-- the answers of the tests, by the exact size
tested : (c : After-too_large) → fits (graph_of (model_of c.args.m) (rows_of c.args.f)) ≡ not c.too_large.result
tested c =
    let u = c.count_untils-untils in
    limits_are (counted c.args.m c.args.f u.result u.ensures c.total_size-size.result c.total_size-size.ensures) ∙ sym (not-not _) ∙ ap not (sym c.too_large.ensures)

pub returns-then-too_large : goal.returns-then-too_large
returns-then-too_large c = let refused = size_refused _ _ _ (tested (goal.at.returns-then-too_large c).After-too_large ∙ ap not c.if-too_large.true) in record { value = refused.0; room_after = refused.1 }

pub is_enough-requires-2 : goal.is_enough-requires-2
is_enough-requires-2 c = let u = c.count_untils-untils in (nodes_few c.args.m c.args.f u.result u.ensures).2

-- whether the rooms are large enough
asked : (c : After-is_enough-2) → let g = graph_of (model_of c.args.m) (rows_of c.args.f) in (fits g && roomy g c.args.room.now c.args.values) ≡ c.is_enough-2.result
asked c =
    let u = c.count_untils-untils in
    sym (enough_are (counted c.args.m c.args.f u.result u.ensures c.total_size-size.result c.total_size-size.ensures) c.args.room.now c.args.values) ∙ sym c.is_enough-2.ensures

pub write-requires-then-is_enough-2 : goal.write-requires-then-is_enough-2
write-requires-then-is_enough-2 c = record { untils_value = c.count_untils-untils.ensures; writable = writable _ _ _ (asked (goal.at.write-requires-then-is_enough-2 c).After-is_enough-2 ∙ c.if-is_enough-2.true) }

pub returns-then-is_enough-2 : goal.returns-then-is_enough-2
returns-then-is_enough-2 c =
    let built = graph_built _ _ _ (asked (goal.at.returns-then-is_enough-2 c).After-is_enough-2 ∙ c.if-is_enough-2.true) c.write-then-is_enough-2.ensures in
    record { value = built.0; room_after = built.1 }

pub returns : goal.returns
returns c =
    let place = goal.at.returns c in
    let refused = room_refused _ _ _ (tested place.After-too_large ∙ ap not c.if-too_large.false) (asked place.After-is_enough-2 ∙ c.if-is_enough-2.false) in
    record { value = refused.0; room_after = refused.1 }
