-- `Entry::is_entry` meets its contract: a refusal's number is tested from both ends.
use borrow.Author.Tests.{le-leb, lt-leb}
use Rattle.entries.proofs.Entry.is_entry.Goals as goal

pub returns-then-n-ge1 : goal.returns-then-n-ge1
returns-then-n-ge1 c = rw (c.in-Refused.is, le-leb 1 _ c.if-n-ge1.true)

pub returns-else-n-ge1 : goal.returns-else-n-ge1
returns-else-n-ge1 c = rw (c.in-Refused.is, lt-leb 1 _ c.if-n-ge1.false)
