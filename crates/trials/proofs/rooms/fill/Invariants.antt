-- After so many turns the first places are filled, and the room is as long as it came.
use Rattle.std.proofs.Common.{◌≡◌, ℕ, ◌<◌, length, get_or}
use Rattle.trials.proofs.rooms.fill.Given as goal

abbrev pub invariant-loop-place : goal.invariant-loop-place
invariant-loop-place g l =
    (length l.room ≡ length l.initial.room) × ((k : ℕ) → k < l.place → (none : _) → get_or l.room k none ≡ g.T.Filled.filled_at k)
