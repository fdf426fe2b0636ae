-- `model::label_limit` meets its contract: the limit is 2 to the power of the turns that are done.
use Rattle.std.proofs.Common.{◌≡◌, ◌^◌}
use Rattle.model.proofs.label_limit.Given as goal

abbrev pub invariant-loop : goal.invariant-loop
invariant-loop l = l.limit ≡ 2 ^ l.counter
