-- `chains::take_listed` meets its contract: each of the nodes that are listed is one, and the records on its chain are taken in.
use mathlib.Core.Path.{◌≡◌, refl, ◌∙◌}
use native.Mathlib.Omega.{arith}
use lib.ListN.{length}
use Rattle.changes.proofs.Listing.{listed_level}
use Rattle.chains.proofs.Taking.{taken_none, taken_more}
use Rattle.chains.proofs.take_listed.Goals as goal

pub loop-i-init : goal.loop-i-init
loop-i-init c = record { as_long = refl; taken = taken_none (λ v. omega (arith, c.type_inv.room v)); listed = listed_level c.requires.room_for_all.1 c.requires.same }

pub take_linked-many-requires-clause-named : goal.take_linked-many-requires-clause-named
take_linked-many-requires-clause-named c =
    let named = c.requires.named.1 c.loop-i.i (omega arith) in
    (omega (arith, named, c.requires.named.0), c.requires.room_for_all.0)

pub loop-i-preserved : goal.loop-i-preserved
loop-i-preserved c =
    let l = c.loop-i.invariant in
    record { as_long = c.take_linked-many.auto.nodes ∙ l.as_long; taken = taken_more l.taken (c.take_linked-many.ensures.further _ _ c.requires.both_halves l.taken.taken); listed = c.take_linked-many.ensures.listed }

pub returns-clause-taken_all : goal.returns-clause-taken_all
returns-clause-taken_all c =
    let all : c.loop-i.i ≡ length c.args.now.now = omega arith in
    rw all at c.loop-i.invariant.taken
