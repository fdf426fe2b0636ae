-- `chains::take_changed` meets its contract: what is listed in front of the list is taken in.
use native.Mathlib.Omega.{arith}
use Rattle.changes.proofs.Listing.{part_length, part_at}
use Rattle.links.proofs.Linking.{index_own}
use Rattle.chains.proofs.Taking.{taken_front}
use Rattle.chains.proofs.take_changed.Goals as goal

pub listed-requires : goal.listed-requires
listed-requires g c = omega (arith, c.requires.room_for_all, c.requires.named.0)

pub take_listed-next-requires-clause-index : goal.take_listed-next-requires-clause-index
take_listed-next-requires-clause-index g c = index_own c.requires.index

pub take_listed-next-requires-clause-room_for_all : goal.take_listed-next-requires-clause-room_for_all
take_listed-next-requires-clause-room_for_all g c = (omega (arith, c.requires.room_for_all.0, c.requires.index.long.short), omega (arith, c.requires.room_for_all))

pub take_listed-next-requires-clause-named : goal.take_listed-next-requires-clause-named
take_listed-next-requires-clause-named g c =
    let few = part_length _ _ _ c.listed.ensures (omega (arith, c.requires.room_for_all, c.requires.named.0)) in
    (omega (arith, few, c.requires.named.0), λ k l. rw (part_at _ _ _ c.listed.ensures k (omega (arith, few))) (c.requires.named.1 k (omega (arith, few))))

pub returns-clause-taken_all : goal.returns-clause-taken_all
returns-clause-taken_all g c = taken_front c.listed.ensures (omega (arith, c.requires.room_for_all, c.requires.named.0)) c.take_listed-next.ensures.taken_all
