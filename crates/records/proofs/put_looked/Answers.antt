-- `records::put_looked` meets its contract, for either kind of action.
use Rattle.records.proofs.put_looked.Goals as goal

pub put_nearby-requires : goal.put_nearby-requires
put_nearby-requires c = record { named = c.requires.named; shift_fits = c.requires.shift_fits; inside = rw c.in-Any.is at c.requires.inside }

pub put_nearby-requires-in-Only : goal.put_nearby-requires-in-Only
put_nearby-requires-in-Only c = record { named = c.requires.named; shift_fits = c.requires.shift_fits; inside = rw c.in-Only.is at c.requires.inside }

pub returns-in-Any : goal.returns-in-Any
returns-in-Any c = rw c.in-Any.is c.put_nearby.ensures

pub returns-in-Only : goal.returns-in-Only
returns-in-Only c = rw c.in-Only.is c.put_nearby-in-Only.ensures
