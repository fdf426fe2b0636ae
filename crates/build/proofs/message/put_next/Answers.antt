-- `message::put_next` meets its contract: the state's transitions are those that the table tells.
use Rattle.build.proofs.message.put_next.Goals as goal

pub put_next-requires : goal.put_next-requires
put_next-requires c = let out = c.out_of.ensures in record { named = out.named; shift_fits = rw out.states c.requires.shift_fits; inside = rw out.list c.requires.inside }

pub returns : goal.returns
returns c = rw c.out_of.ensures.list at c.put_next.ensures
