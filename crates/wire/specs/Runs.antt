-- Records read one behind another by a function: `pre st` says that it may be called in the state st, and `post st r` that it may give r there.
use Rattle.std.specs.Prelude.{ℕ, zero, suc}
use Rattle.wire.specs.Read.{Read, Ok, Err}
use Rattle.wire.specs.declared.State.{State}

-- what reading k of them from a state gives: the state past the last, or the first fault
pub data Runs (post : State → Read State → Type 0) : ℕ → State → Read State → Type 0 where
  none : {st : State} → Runs post zero st (Ok st)
  stops : {k : ℕ} {st : State} {e : _} → post st (Err e) → Runs post (suc k) st (Err e)
  goes_on : {k : ℕ} {st next : State} {r : Read State} → post st (Ok next) → Runs post k next r → Runs post (suc k) st r

-- each of the k may be read, whatever the ones before it gave
unfoldable pub MayRun : (pre : State → Type 0) (post : State → Read State → Type 0) → ℕ → State → Type 0
MayRun pre post zero st = Unit
MayRun pre post (suc k) st = pre st × ((next : State) → post st (Ok next) → MayRun pre post k next)
