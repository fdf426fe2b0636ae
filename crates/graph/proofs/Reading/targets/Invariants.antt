-- `graph::Reading::targets` meets its contract: behind the fours, whose targets name nodes, the run goes on; the targets that are left fit, end where the
-- loop does, and their run is the run from there.
use Prim.Native.Nat.{ℕ, ◌+◌, ◌*◌, ◌-◌, ◌/◌, ◌≤◌}
use mathlib.Core.List.{List}
use mathlib.Core.Path.{◌≡◌}
use lib.ListN.{length}
use Rattle.wire.specs.Read.{Read}
use Rattle.wire.specs.declared.State.{State}
use Rattle.wire.specs.Reader.{run}
use Rattle.graph.specs.Format.{target_width}
use Rattle.graph.specs.Message as m
use Rattle.graph.proofs.Reading.targets.Given as goal

-- the run of the targets from a state up to an end
abbrev pub run_to : List ℕ → (n end : ℕ) → State → Read State
run_to s n end st = run (m.targets s n) ((end - st.at) / target_width) st

-- how many targets are left of those behind the fours
pub record Left (s : List ℕ) (n end : ℕ) (behind st : State) : Type 0 where
  pub left : ℕ
  pub there : st.at + left * target_width ≡ end
  pub inside : end ≤ length s
  pub whole : run (m.targets s n) left st ≡ run_to s n end behind

abbrev pub invariant-loop-st : goal.invariant-loop-st
invariant-loop-st l = Left l.self.bytes.now l.self.nodes l.end l.initial.st l.st

abbrev pub decreases-loop-st : goal.decreases-loop-st
decreases-loop-st l = l.end - l.st.at
