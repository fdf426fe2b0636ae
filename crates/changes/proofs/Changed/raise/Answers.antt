-- `changes::Changed::raise` meets its contract: what is listed names every node that changed.
use native.Mathlib.Omega.{arith}
use Rattle.changes.proofs.Listing.{listed_few, listed_names}
use Rattle.changes.proofs.Changed.raise.Goals as goal

pub listed-requires : goal.listed-requires
listed-requires g c = let few = listed_few c.requires.listed in omega (arith, c.requires.listed.long, few)

pub raise_changed-requires-clause-names : goal.raise_changed-requires-clause-names
raise_changed-requires-clause-names g c = listed_names c.requires.listed c.listed.ensures
