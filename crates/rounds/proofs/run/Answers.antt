-- `rounds::run` meets its contract: rounds 0 and 1 stand in the room, then rounds 1 and 2, and `run_linked` or `run_on` goes on from there.
use Prim.Native.Nat.{ℕ, ◌+◌, ◌≤◌, min}
use mathlib.Core.List.{List}
use mathlib.Core.Path.{sym, ◌∙◌}
use native.Mathlib.Omega.{arith}
use lib.ListN.{length, get_or}
use Rattle.value.specs.Stored.{stored}
use Rattle.wire.specs.Layout.{items}
use Rattle.rules.specs.Rounds as rules
use Rattle.graph.specs.Format.{graph_header}
use Rattle.graph.specs.Layouts.{hyper_layout, decoded}
use Rattle.graph.specs.Viewed.{graph_of}
use Rattle.graph.specs.declared.view.Graph.{Graph}
use Rattle.halves.specs.Held.{held}
use Rattle.halves.specs.Room.{half, Cleared}
use Rattle.scans.specs.Scan.{Done, part_of}
use Rattle.turns.specs.Turns.{AtRound}
use Rattle.scans.proofs.Infinite.{covers_idle, stays_infinite}
use Rattle.scans.proofs.Next.{round_done}
use Rattle.turns.proofs.Loop.{begins, from_here, holds_filled, filled_on, ends_settled, ends_spent, full_round, anywhere}
use Rattle.rounds.proofs.run.Goals as goal
use Rattle.rounds.proofs.run.Goals.{After-first_round-middle, After-next_round}

-- what the first round does to a room that was cleared
abbrev First : Graph → (b₀ b₁ : List ℕ) → Type 0
First g b₀ b₁ =
    Done g.nodes 0 g.nodes b₀ b₁
    (λ v. min (get_or b₀ (g.nodes + v) 0) (stored (rules.best (held (half g.nodes 0 b₀)) v (items (hyper_layout g.bytes.now g.nodes) g.hypers graph_header))))

-- round 0 stands first then, and round 1 behind it
after_first : (g : Graph) {budget : ℕ} {b b₀ b₁ : List ℕ} → Cleared (g.nodes + g.nodes) b b₀ → First g b₀ b₁ → AtRound (graph_of g) budget 0 b b₁
unfolding decoded part_of
after_first g k t =
    let ready = g.ready in
    begins _ ready.closed ready.storable k (round_done _ _ _ _ _ _ _ _ _ _ _ t (covers_idle _ _ _ _ _ ready.sound.covers (stays_infinite _ _ _ t.this (λ v l. k.cleared v (omega arith)))))

-- the room is as long as it was, after the first round and after the second
long : (c : After-first_round-middle) → c.args.g.nodes + c.args.g.nodes ≤ length c.first_round-middle.new.room
long c = rw (c.first_round-middle.ensures.done.same_length ∙ c.clear.ensures.same_length) c.requires

pub overflow_add-n : goal.overflow_add-n
overflow_add-n c = omega (arith, c.requires)

pub clear-requires : goal.clear-requires
clear-requires c = c.requires

pub first_round-middle-requires : goal.first_round-middle-requires
first_round-middle-requires c = record { n_in_bounds = rw c.clear.ensures.same_length c.requires; all_infinite = λ v l. c.clear.ensures.cleared v (omega arith) }

-- round 0 stands first, and round 1 behind it
begun : (c : After-first_round-middle) → let a = c.args in AtRound (graph_of a.g) a.budget 0 a.room.now c.first_round-middle.new.room
begun c = after_first c.args.g c.clear.ensures c.first_round-middle.ensures.done

pub same-requires : goal.same-requires
same-requires c = record { n_in_bounds = long (goal.at.same-requires c).After-first_round-middle; hi_le_n = omega arith; beside = anywhere }

pub shape_of-room-then-same : goal.shape_of-room-then-same
shape_of-room-then-same c = (begun (goal.at.shape_of-room-then-same c).After-first_round-middle).same_length

pub returns-then-same : goal.returns-then-same
unfolding decoded
returns-then-same c = record { value = ends_settled _ c.args.g.ready.closed c.args.g.ready.storable (begun (goal.at.returns-then-same c).After-first_round-middle) (c.same.ensures.0 c.if-same.true); room_after = holds_filled c.requires (begun (goal.at.returns-then-same c).After-first_round-middle) }

pub shape_of-room-then-budget-eq0 : goal.shape_of-room-then-budget-eq0
shape_of-room-then-budget-eq0 c = (begun (goal.at.shape_of-room-then-budget-eq0 c).After-first_round-middle).same_length

pub returns-then-budget-eq0 : goal.returns-then-budget-eq0
unfolding decoded
returns-then-budget-eq0 c = record { value = ends_spent _ c.args.g.ready.closed c.args.g.ready.storable (begun (goal.at.returns-then-budget-eq0 c).After-first_round-middle) (c.same.ensures.1 c.if-same.false) (sym c.if-budget-eq0.true); room_after = holds_filled c.requires (begun (goal.at.returns-then-budget-eq0 c).After-first_round-middle) }

pub raise-requires : goal.raise-requires
raise-requires c = long (goal.at.raise-requires c).After-first_round-middle

pub next_round-requires : goal.next_round-requires
next_round-requires c =
    rw c.cover_edges-covers.ensures (record { sound = c.args.g.ready.sound.hypers; z_le_count = omega arith; n_in_bounds = rw c.raise.ensures.same_length (long (goal.at.next_round-requires c).After-first_round-middle) })

-- round 1 stands first, and round 2 behind it
again : (c : After-next_round) → let a = c.args in
    AtRound (graph_of a.g) a.budget 1 a.room.now c.next_round.new.room
unfolding decoded part_of
again c =
    let first = c.first_round-middle.ensures in
    full_round c.args.g.ready first.value (after_first c.args.g c.clear.ensures first.done) (c.same.ensures.1 c.if-same.false) (λ e. c.if-budget-eq0.false (sym e)) c.raise.ensures
    (rw c.cover_edges-covers.ensures at c.next_round.ensures.done)

-- and the room is still as long
longer : (c : After-next_round) → let a = c.args in a.g.nodes + a.g.nodes ≤ length c.next_round.new.room
longer c = rw (again c).same_length c.requires

pub same-requires-2 : goal.same-requires-2
same-requires-2 c = record { n_in_bounds = longer (goal.at.same-requires-2 c).After-next_round; hi_le_n = omega arith; beside = anywhere }

pub shape_of-room-then-same-2 : goal.shape_of-room-then-same-2
shape_of-room-then-same-2 c = (again (goal.at.shape_of-room-then-same-2 c).After-next_round).same_length

pub returns-then-same-2 : goal.returns-then-same-2
unfolding decoded
returns-then-same-2 c = record { value = ends_settled _ c.args.g.ready.closed c.args.g.ready.storable (again (goal.at.returns-then-same-2 c).After-next_round) (c.same-2.ensures.0 c.if-same-2.true); room_after = holds_filled c.requires (again (goal.at.returns-then-same-2 c).After-next_round) }

pub run_linked-requires : goal.run_linked-requires
run_linked-requires c = record { fits = c.fit.ensures c.if-fit.true; both_halves = longer (goal.at.run_linked-requires c).After-next_round; at_round = from_here (again (goal.at.run_linked-requires c).After-next_round) }

pub shape_of-room-then-fit : goal.shape_of-room-then-fit
shape_of-room-then-fit c = c.run_linked.auto.room ∙ (again (goal.at.shape_of-room-then-fit c).After-next_round).same_length

pub returns-then-fit : goal.returns-then-fit
unfolding decoded
returns-then-fit c = record { value = c.run_linked.ensures.value; room_after = filled_on (again (goal.at.returns-then-fit c).After-next_round) _ c.run_linked.ensures.room_after }

pub run_on-requires : goal.run_on-requires
run_on-requires c = let another = c.same-2.ensures.1 c.if-same-2.false in
    record { n_in_bounds = longer (goal.at.run_on-requires c).After-next_round; at_round = from_here (again (goal.at.run_on-requires c).After-next_round); not_same = another }

pub shape_of-room : goal.shape_of-room
shape_of-room c = c.run_on.auto.room ∙ (again (goal.at.shape_of-room c).After-next_round).same_length

pub returns : goal.returns
unfolding decoded
returns c = record { value = c.run_on.ensures.value; room_after = filled_on (again (goal.at.returns c).After-next_round) _ c.run_on.ensures.room_after }
