-- `wire::number_at` meets its contract: after i turns n is the number that the first i bytes make, below 256 ^ i.
use Rattle.std.proofs.Common.{◌≡◌, ◌^◌, ◌<◌}
use Rattle.wire.specs.Bytes.{number}
use Rattle.wire.proofs.number_at.Given as goal

abbrev pub invariant-loop-i : goal.invariant-loop-i
invariant-loop-i l = (l.n ≡ number l.i l.s l.at) × (l.n < 256 ^ l.i)
