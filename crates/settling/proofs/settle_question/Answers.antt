-- `settling::settle_question` meets its contract: the graph is refused, or it is built, and the rounds on it are passed on.
use Prim.Native.Nat.{ℕ, ◌*◌, ◌-◌, ◌≤◌}
use mathlib.Core.List.{List}
use mathlib.Core.Path.{◌≡◌, sym, ap, ◌∙◌}
use native.Mathlib.Nat.{mul-le-mul}
use native.Mathlib.Omega.{arith}
use lib.ListN.{length, take}
use Rattle.lists.proofs.Tests.{by}
use Rattle.wire.specs.Read.{Ok}
use Rattle.wire.proofs.Reading.{passed as handed}
use Rattle.graph.specs.WellFormed.{WellFormed}
use Rattle.graph.specs.Write.{write_graph}
use Rattle.turns.specs.declared.Outcome.{Outcome}
use Rattle.graph.proofs.Ready.{Written, header_inside, written_ready}
use Rattle.transitions.proofs.Accepted.{states_few, rows_length}
use Rattle.questions.specs.declared.asked.Asked.{Asked}
use Rattle.questions.specs.Question.{graph_for}
use Rattle.questions.specs.Asking.{question_of}
use Rattle.build.specs.Built.{built_room}
use Rattle.settling.proofs.Settling.{fits_well, WasBuilt, was_built, Shows, shows_as, shows_refused, front, front_inside, values_inside, passed, shows_ran, held_done}
use Rattle.settling.proofs.settle_question.Goals as goal
use Rattle.settling.proofs.settle_question.Goals.{In_ok-length, After-number_at-covers, After-run}

-- there are rows
some_row : (asked : Asked) → 1 ≤ asked.formula.rows
some_row asked = let f = asked.formula in omega (arith, f.holds.well_formed.some_row, rows_length f.bytes.now f.rows)

-- a graph that was built: its message stands at the front of its room, and it is well-formed
module _ (asked : Asked) {b b' : List ℕ} {n long : ℕ} (built : WasBuilt (graph_for (question_of asked)) b n long) (room : b' ≡ built_room (graph_for (question_of asked)) b n) where
  message : take long b' ≡ write_graph (graph_for (question_of asked))
  message = front built room

  well : WellFormed (graph_for (question_of asked))
  well = fits_well (question_of asked) asked.model.holds.well_formed asked.formula.holds.well_formed built.fitting

  header : 14 ≤ length (take long b')
  header = header_inside _ _ well message

in_header : {k n : ℕ} → k ≤ 14 → 14 ≤ n → k ≤ n
in_header p q = omega arith

built : (c : In_ok-length) → WasBuilt (graph_for (question_of c.args.asked)) c.args.bytes.now (length c.args.values.now) c.in_ok-length.length
built c = was_built _ _ _ (by c.build.ensures.value c.in_ok-length.was)

-- the counts are read from it, so the rounds on it are those on the graph
counted : (c : After-number_at-covers) → WasBuilt (graph_for (question_of c.args.asked)) c.args.bytes.now (length c.args.values.now) c.in_ok-length.length
    → Written (take c.in_ok-length.length c.build.new.room) (graph_for (question_of c.args.asked)) c.number_at-nodes.result c.number_at-hypers.result c.number_at-covers.result
counted c was =
    let room = c.build.ensures.room_after in
    written_ready _ _ (well c.args.asked was room) (message c.args.asked was room) c.number_at-nodes.ensures c.number_at-hypers.ensures c.number_at-covers.ensures

pub returns-in_err-length : goal.returns-in_err-length
returns-in_err-length c =
    let shown = shows_refused _ _ _ _ (by c.build.ensures.value c.in_err-length.was) c.build.ensures.room_after in
    rw (handed c.from_residual.ensures) (record { value = shown.0; bytes_after = shown.1.0; values_after = shown.1.1 })

pub overflow_sub-first : goal.overflow_sub-first
overflow_sub-first c = some_row c.args.asked

pub overflow_mul-first : goal.overflow_mul-first
overflow_mul-first c =
    let asked = c.args.asked in
    let few : asked.formula.rows - 1 ≤ 64 = omega (arith, asked.formula.holds.rows_fit) in
    let small : asked.model.states * (asked.formula.rows - 1) ≤ 256 * 64 = mul-le-mul (states_few asked.model.holds) few in
    omega (arith, small)

pub slice_bounds-message-end : goal.slice_bounds-message-end
slice_bounds-message-end c = front_inside (built (goal.at.slice_bounds-message-end c).In_ok-length) c.build.ensures.room_after

pub slice_bounds-message-end-2 : goal.slice_bounds-message-end-2
slice_bounds-message-end-2 c =
    let was = built (goal.at.slice_bounds-message-end-2 c).In_ok-length in
    was.long_is ∙ ap length (sym (message c.args.asked was c.build.ensures.room_after))

pub number_at-nodes-requires : goal.number_at-nodes-requires
number_at-nodes-requires c = in_header (omega arith) (header c.args.asked (built (goal.at.number_at-nodes-requires c).In_ok-length) c.build.ensures.room_after)

pub number_at-hypers-requires : goal.number_at-hypers-requires
number_at-hypers-requires c = in_header (omega arith) (header c.args.asked (built (goal.at.number_at-hypers-requires c).In_ok-length) c.build.ensures.room_after)

pub number_at-covers-requires : goal.number_at-covers-requires
number_at-covers-requires c = in_header (omega arith) (header c.args.asked (built (goal.at.number_at-covers-requires c).In_ok-length) c.build.ensures.room_after)

pub invariant_of-g : goal.invariant_of-g
invariant_of-g c = let place = goal.at.invariant_of-g c in record { ready = (counted place.After-number_at-covers (built place.In_ok-length)).ready }

pub run-requires : goal.run-requires
run-requires c =
    let place = goal.at.run-requires c in
    let was = built place.In_ok-length in
    rw (counted place.After-number_at-covers was).nodes (values_inside was)

-- what the rounds on it ended in is passed on
ran : (c : After-run) (r : Outcome) → c.run.result ≡ r → WasBuilt (graph_for (question_of c.args.asked)) c.args.bytes.now (length c.args.values.now) c.in_ok-length.length
    → Written (take c.in_ok-length.length c.build.new.room) (graph_for (question_of c.args.asked)) c.number_at-nodes.result c.number_at-hypers.result c.number_at-covers.result
    → Shows (question_of c.args.asked) c.args.budget c.args.bytes.now c.args.values.now (Ok (passed (question_of c.args.asked) c.in_ok-length.length r)) c.build.new.room c.run.new.room
ran c r e was w = shows_ran _ _ _ _ was w.is c.build.ensures.room_after c.run.ensures.value c.run.ensures.room_after e

pub returns-in-Settled : goal.returns-in-Settled
returns-in-Settled c =
    let place = goal.at.returns-in-Settled c in
    let was = built place.In_ok-length in
    let shown = shows_as _ _ _ _ (ap Ok (held_done c.args.asked _ _)) (ran place.After-run _ c.in-Settled.is was (counted place.After-number_at-covers was)) in
    record { value = shown.0; bytes_after = shown.1.0; values_after = shown.1.1 }

pub returns-in-Spent : goal.returns-in-Spent
returns-in-Spent c =
    let place = goal.at.returns-in-Spent c in
    let was = built place.In_ok-length in
    let shown = ran place.After-run _ c.in-Spent.is was (counted place.After-number_at-covers was) in
    record { value = shown.0; bytes_after = shown.1.0; values_after = shown.1.1 }
