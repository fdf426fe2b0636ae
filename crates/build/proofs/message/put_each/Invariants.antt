-- `message::put_each` meets its contract: what is written for the numbers left makes the whole.
use Rattle.std.proofs.Common.{ℕ, ◌+◌, ◌≤◌, List, length}
use Rattle.lists.specs.Making.{span}
use Rattle.wire.proofs.Spans.{SpanLeft}
use Rattle.build.specs.Puts.{PutsEach}
use Rattle.build.proofs.message.put_each.Given as goal

abbrev pub invariant-loop-a : goal.invariant-loop-a
invariant-loop-a g l =
    (bytes : ℕ → List ℕ) → PutsEach (goal.F-pre g l.put) (goal.F-post g l.put) bytes l.n → l.at + length (span bytes 0 l.n) ≤ length l.initial.room
    → SpanLeft bytes l.n l.initial.room l.at (span bytes 0 l.n) l.room l.next l.a
