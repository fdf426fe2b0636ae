-- `Entry::place` meets its contract: the refusal numbers follow yes and no.
use Rattle.entries.proofs.Entry.place.Goals as goal

pub returns-in-Refused : goal.returns-in-Refused
returns-in-Refused c = rw c.in-Refused.is
