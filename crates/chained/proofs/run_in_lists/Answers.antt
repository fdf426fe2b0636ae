-- `chained::run_in_lists` meets its contract: what a turn takes in is enough for the next round, and the nodes that it changes are listed.
use Prim.Native.Nat.{ℕ, ◌≤◌, ◌<◌}
use mathlib.Core.Path.{◌≡◌, refl}
use native.Mathlib.Omega.{arith}
use lib.ListN.{length, get_or, take, length-replicate}
use Rattle.graph.specs.Layouts.{decoded}
use Rattle.changes.proofs.Listing.{listed_few, listed_over, listed_some, part_length, part_at}
use Rattle.chains.proofs.Taking.{taken_front}
use Rattle.turns.proofs.Loop.{holds_filled, ends_settled, ends_spent, goes_on}
use Rattle.chained.proofs.Chains.{round_fallen, taken_part}
use Rattle.chained.proofs.run_in_lists.Given.{Over}
use Rattle.chained.proofs.run_in_lists.Goals as goal
use Rattle.chained.proofs.run_in_lists.Goals.{At-loop-many}

pub list_changed-many-requires-clause-fallen : goal.list_changed-many-requires-clause-fallen
unfolding decoded
list_changed-many-requires-clause-fallen g c = round_fallen _ c.args.g.ready.closed c.requires.at_round

pub loop-many-init : goal.loop-many-init
loop-many-init g c =
    let d = c.list_changed-many.ensures in
    record { at_round = c.requires.at_round; listed = d; few = listed_few d; room_for_all = omega (arith, length-replicate {A = ℕ} g.row.M 0, c.requires.fits.nodes) }

module _ (g : Over) (c : At-loop-many g) where
  -- there is room for as many as are listed, and so as many are lent, and each is a node
  enough : c.loop-many.many ≤ length c.loop-many.now.now
  enough = omega (arith, c.loop-many.invariant.few, c.loop-many.invariant.listed.long)

  lent : length (take c.loop-many.many c.loop-many.now.now) ≡ c.loop-many.many
  lent = part_length _ _ _ refl enough

  named : (k : ℕ) → k < length (take c.loop-many.many c.loop-many.now.now) → get_or (take c.loop-many.many c.loop-many.now.now) k 0 < c.args.g.nodes
  named k l =
      let below : k < c.loop-many.many = omega (arith, lent) in
      let same = part_at c.loop-many.many c.loop-many.now.now _ refl k below in
      omega (arith, same, c.loop-many.invariant.listed.named k below)

pub take_listed-many-requires-clause-named : goal.take_listed-many-requires-clause-named
take_listed-many-requires-clause-named g c =
    let t = (goal.at.take_listed-many-requires-clause-named g c).At-loop-many in
    rw c.scanned-in-loop-many.ensures (omega (arith, lent g t, c.loop-many.invariant.few), named g t)

pub loop-many-preserved : goal.loop-many-preserved
unfolding decoded
loop-many-preserved g c =
    let ready = c.args.g.ready in
    let l = c.loop-many.invariant in
    let index = rw c.scanned.ensures at c.link_all.ensures in
    let taken = taken_front refl (enough g (goal.at.loop-many-preserved g c).At-loop-many) (rw c.scanned-in-loop-many.ensures at c.take_listed-many.ensures.taken_all) in
    record {
      at_round = goes_on _ ready.closed ready.storable l.at_round (listed_some l.listed c.if-many-eq0.false) c.if-round-budget.false c.raise_changed.ensures _ (taken_part ready c.args.g.behind index l.listed taken l.at_round) taken.taken.room;
      listed = rw c.scanned-in-loop-many.ensures at c.take_listed-many.ensures.listed;
      few = listed_few (rw c.scanned-in-loop-many.ensures at c.take_listed-many.ensures.listed);
      room_for_all = l.listed.long;
    }

pub returns-then-many-eq0-clause-value : goal.returns-then-many-eq0-clause-value
unfolding decoded
returns-then-many-eq0-clause-value g c = let l = c.loop-many.invariant in
    ends_settled _ c.args.g.ready.closed c.args.g.ready.storable l.at_round (listed_over l.listed c.if-many-eq0.true)

pub returns-then-many-eq0-clause-room_after : goal.returns-then-many-eq0-clause-room_after
unfolding decoded
returns-then-many-eq0-clause-room_after g c = holds_filled c.requires.both_halves c.loop-many.invariant.at_round

pub returns-then-round-budget-clause-value : goal.returns-then-round-budget-clause-value
unfolding decoded
returns-then-round-budget-clause-value g c = let l = c.loop-many.invariant in
    ends_spent _ c.args.g.ready.closed c.args.g.ready.storable l.at_round (listed_some l.listed c.if-many-eq0.false) c.if-round-budget.true

pub returns-then-round-budget-clause-room_after : goal.returns-then-round-budget-clause-room_after
unfolding decoded
returns-then-round-budget-clause-room_after g c = holds_filled c.requires.both_halves c.loop-many.invariant.at_round
