-- `message::write` meets its contract: the rows' hyperedges, the helpers' and the cover edges, one behind the other, and the header in front of them.
use Prim.Native.Nat.{ℕ, ◌+◌, ◌*◌, ◌-◌, ◌/◌, ◌≤◌}
use mathlib.Core.List.{List, ◌++◌}
use mathlib.Core.Path.{◌≡◌, refl, ap, ◌∙◌}
use native.Mathlib.Nat.{mul-le-mul_left}
use native.Mathlib.Omega.{arith}
use lib.ListN.{length}
use Rattle.wire.specs.Laid.{Laid}
use Rattle.wire.proofs.Laid.{◌then◌, fits, said, same_length as as_long}
use Rattle.model.specs.Model.{Model}
use Rattle.syntax.specs.declared.Row.{Row}
use Rattle.reduction.specs.Built.{untils, graph_of}
use Rattle.graph.specs.Format.{graph_header}
use Rattle.graph.specs.Write.{write_graph}
use Rattle.transitions.specs.Held.{held_model}
use Rattle.transitions.specs.Views.{model_of, rows_of}
use Rattle.records.specs.Bytes.{helpers_hypers, rows_bytes, helpers_bytes, covers_of}
use Rattle.records.proofs.Edges.{front_laid}
use Rattle.sizing.proofs.Whole.{helpers_bytes_lem}
use Rattle.build.proofs.Writing.{untils_few, nodes_few, rows_few, helpers_fit, hypers_few, long_few, written_parts, body_fits, parts_fit, header_length}
use Rattle.build.proofs.message.write.Goals as goal
use Rattle.build.proofs.message.write.Goals.{After-put_covers-end, Start}

abbrev model_in : Start → Model
model_in s = model_of s.args.table.model

abbrev rows_in : Start → List Row
rows_in s = rows_of s.args.f

-- the three parts behind the header
abbrev rows : Start → List ℕ
rows s = rows_bytes (model_in s) 0 (rows_in s)

abbrev helpers : Start → List ℕ
helpers s = helpers_bytes (model_in s) s.args.f.rows (untils (rows_in s))

abbrev covers : Start → List ℕ
covers s = covers_of s.args.table.model.states (rows_in s)

-- they fit
long : (s : Start) → graph_header + length (rows s ++ helpers s ++ covers s) ≡ length (write_graph (graph_of (model_in s) (rows_in s)))
long s = body_fits s.args.table.model.holds s.args.f.holds s.requires.untils_value s.requires.writable

fit : (s : Start) → let size = length s.args.room.now in
    (graph_header + length (rows s) ≤ size) × (graph_header + length (rows s ++ helpers s) ≤ size) × (graph_header + length (rows s ++ helpers s ++ covers s) ≤ size)
fit s = parts_fit graph_header (rows s) (helpers s) (covers s) (omega (arith, long s, s.requires.writable.room))

few : (s : Start) → s.args.table.model.states * (s.args.f.rows + s.args.untils) ≤ 4096
few s = nodes_few s.args.table.model.holds s.args.f.holds s.requires.untils_value s.requires.writable

pub put_rows-rows-requires : goal.put_rows-rows-requires
put_rows-rows-requires c = let few = rows_few c.args.table.model.holds c.args.f.holds c.requires.untils_value c.requires.writable in
    record { nodes_fit = few; inside = (fit (goal.at.put_rows-rows-requires c).Start).0 }

pub put_helpers-covers-requires : goal.put_helpers-covers-requires
put_helpers-covers-requires c = let fine = helpers_fit c.args.table.model.holds c.args.f.holds c.requires.untils_value c.requires.writable in
    record { helpers_fit = fine; inside = fits c.put_rows-rows.ensures.laid (helpers (goal.at.put_helpers-covers-requires c).Start) (fit (goal.at.put_helpers-covers-requires c).Start).1 }

pub put_covers-end-requires : goal.put_covers-end-requires
put_covers-end-requires c = record { nodes_fit = rw (← c.requires.untils_value) (few (goal.at.put_covers-end-requires c).Start); inside = fits (c.put_rows-rows.ensures.laid then c.put_helpers-covers.ensures) (covers (goal.at.put_covers-end-requires c).Start) (fit (goal.at.put_covers-end-requires c).Start).2 }

-- what is laid in behind the header
body : (c : After-put_covers-end) → Laid c.args.room.now graph_header ((rows_bytes (model_of c.args.table.model) 0 (rows_of c.args.f)) ++ (helpers_bytes (model_of c.args.table.model) c.args.f.rows (untils (rows_of c.args.f))) ++ (covers_of c.args.table.model.states (rows_of c.args.f))) c.put_covers-end.new.room c.put_covers-end.result
body c = c.put_rows-rows.ensures.laid then c.put_helpers-covers.ensures then c.put_covers-end.ensures

-- the untils' transitions are few
steps_few : (s : Start) → s.args.table.model.transitions * s.args.untils ≤ 4194240
steps_few s =
    let all : s.args.table.model.transitions * s.args.untils ≤ s.args.table.model.transitions * 64 = mul-le-mul_left s.args.table.model.transitions (omega (arith, untils_few s.args.f.holds, s.args.f.holds.rows_fit, s.requires.untils_value)) in
    omega (arith, s.args.table.model.holds.transitions_fit)

-- the bytes of the helpers, and how many hyperedges they are
helped : (c : After-put_covers-end) → c.put_helpers-covers.result ≡ c.put_rows-rows.result.next + (length (helpers_hypers (model_of c.args.table.model) c.args.f.rows (untils (rows_of c.args.f))) * 10 + c.args.table.model.transitions * c.args.untils * 6)
unfolding held_model helpers_bytes
helped c =
    let bytes = helpers_bytes_lem c.args.table.model.holds c.args.f.rows (rows_of c.args.f) in
    c.put_helpers-covers.ensures.next_is ∙ ap (λ (k : ℕ). c.put_rows-rows.result.next + k) (rw (← c.requires.untils_value) at bytes)

-- the counts of the header
ends : (c : After-put_covers-end) → c.put_covers-end.result ≡ length (write_graph (graph_of (model_of c.args.table.model) (rows_of c.args.f)))
ends c = (body c).next_is ∙ body_fits c.args.table.model.holds c.args.f.holds c.requires.untils_value c.requires.writable

abbrev hypers_of : After-put_covers-end → ℕ
hypers_of c =
    let a = c.args in
    let put = c.put_rows-rows.result in
    put.hypers + (c.put_helpers-covers.result - put.next - a.table.model.transitions * a.untils * 6) / 10

hypers_are : (c : After-put_covers-end) → (hypers_of c ≡ length (graph_of (model_of c.args.table.model) (rows_of c.args.f)).hypers) × (hypers_of c ≤ 65535)
hypers_are c =
    let a = c.args in
    let count : (c.put_helpers-covers.result - c.put_rows-rows.result.next - a.table.model.transitions * a.untils * 6) / 10 ≡ length (helpers_hypers (model_of c.args.table.model) a.f.rows (untils (rows_of c.args.f))) = omega (arith, helped c) in
    hypers_few c.args.table.model.holds c.args.f.holds c.requires.untils_value c.requires.writable c.put_rows-rows.ensures.hypers_value count

pub overflow_mul-steps : goal.overflow_mul-steps
overflow_mul-steps c = omega (arith, steps_few (goal.at.overflow_mul-steps c).Start)

pub overflow_cast-steps : goal.overflow_cast-steps
overflow_cast-steps c = omega (arith, steps_few (goal.at.overflow_cast-steps c).Start)

pub overflow_mul-steps-2 : goal.overflow_mul-steps-2
overflow_mul-steps-2 c = omega (arith, steps_few (goal.at.overflow_mul-steps-2 c).Start)

pub overflow_sub-helpers : goal.overflow_sub-helpers
overflow_sub-helpers c = omega (arith, helped (goal.at.overflow_sub-helpers c).After-put_covers-end)

pub overflow_sub-helpers-2 : goal.overflow_sub-helpers-2
overflow_sub-helpers-2 c = omega (arith, helped (goal.at.overflow_sub-helpers-2 c).After-put_covers-end)

pub overflow_add-hypers : goal.overflow_add-hypers
overflow_add-hypers c = omega (arith, (hypers_are (goal.at.overflow_add-hypers c).After-put_covers-end).1)

pub overflow_add-nodes : goal.overflow_add-nodes
overflow_add-nodes c =
    omega (arith, untils_few c.args.f.holds, c.args.f.holds.rows_fit, c.requires.untils_value)

pub overflow_mul-nodes : goal.overflow_mul-nodes
overflow_mul-nodes c = omega (arith, few (goal.at.overflow_mul-nodes c).Start)

pub overflow_cast-end : goal.overflow_cast-end
overflow_cast-end c =
    omega (arith, ends (goal.at.overflow_cast-end c).After-put_covers-end, long_few c.args.table.model.holds c.args.f.holds c.requires.untils_value c.requires.writable)

pub overflow_cast-hypers : goal.overflow_cast-hypers
overflow_cast-hypers c = omega (arith, (hypers_are (goal.at.overflow_cast-hypers c).After-put_covers-end).1)

pub overflow_mul-n : goal.overflow_mul-n
overflow_mul-n c =
    let below : c.args.table.model.states * c.args.untils ≤ c.args.table.model.states * (c.args.f.rows + c.args.untils) = mul-le-mul_left c.args.table.model.states (omega arith) in
    omega (arith, few (goal.at.overflow_mul-n c).Start)

pub put_header-requires : goal.put_header-requires
put_header-requires c =
    omega (arith, as_long (body (goal.at.put_header-requires c).After-put_covers-end), (fit (goal.at.put_header-requires c).Start).0)

pub returns : goal.returns
returns c =
    let a = c.args in
    let parts = written_parts c.args.table.model.holds c.args.f.holds c.requires.untils_value c.requires.writable (ends (goal.at.returns c).After-put_covers-end) (hypers_are (goal.at.returns c).After-put_covers-end).0 in
    let first = header_length c.put_covers-end.result (a.table.model.states * (a.f.rows + a.untils)) (hypers_of (goal.at.returns c).After-put_covers-end) (a.table.model.states * a.untils) in
    said (front_laid graph_header first (body (goal.at.returns c).After-put_covers-end) c.put_header.ensures) parts refl refl
