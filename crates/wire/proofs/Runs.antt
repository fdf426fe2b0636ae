-- Records read one behind another by a function: the turns of the loop, and what a run is where the function reads as a reader does. Assumes nothing.
use Rattle.std.proofs.Common.{◌≡◌, ℕ, zero, suc, ◌-◌, ◌<◌, ◌≤◌, sym, refl, sub-one, arith, subst}
use Rattle.refusal.specs.declared.Fault.{Fault}
use Rattle.wire.specs.Read.{Read, Ok, Err, ◌>>=◌}
use Rattle.wire.specs.Reader.{Reader, one, run}
use Rattle.wire.specs.Runs.{Runs, MayRun, none, stops, goes_on}
use Rattle.wire.specs.declared.State.{State}
use Rattle.wire.proofs.Reading.{never, good_same}
use Rattle.wire.proofs.Readers.{run_none, run_more}

module _ (pre : State → Type 0) (post : State → Read State → Type 0) where
  -- what the first of some may do, and leaves
  pub may_first : {k : ℕ} {st : State} → 0 < k → MayRun pre post k st → pre st × ((next : State) → post st (Ok next) → MayRun pre post (k - 1) next)
  unfolding MayRun
  may_first {k = zero} some may = absurd (omega arith)
  may_first {k = suc k} some may = rw sub-one may

  -- what the states keep, turn by turn, lets each be read
  pub may_run : (Inv : ℕ → State → Type 0) → ((k : ℕ) (st : State) → Inv (suc k) st → pre st)
      → ((k : ℕ) (st next : State) → Inv (suc k) st → post st (Ok next) → Inv k next)
      → (k : ℕ) (st : State) → Inv k st → MayRun pre post k st
  unfolding MayRun
  may_run Inv reads keeps zero st inv = tt
  may_run Inv reads keeps (suc k) st inv = (reads k st inv, λ next p. may_run Inv reads keeps k next (keeps k st next inv p))

-- a run of the k that are left: where none is, where the next stops, where it goes on
module _ (post : State → Read State → Type 0) where
  pub runs_done : {k : ℕ} {st : State} → k ≤ 0 → Runs post k st (Ok st)
  runs_done {k = zero} over = none
  runs_done {k = suc k} over = absurd (omega arith)

  pub runs_stop : {k : ℕ} {st : State} {e : Fault} → 0 < k → post st (Err e) → Runs post k st (Err e)
  runs_stop {k = zero} some p = absurd (omega arith)
  runs_stop {k = suc k} some p = stops p

  pub runs_go_on : {k : ℕ} {st next : State} {r : Read State} → 0 < k → post st (Ok next) → Runs post (k - 1) next r → Runs post k st r
  runs_go_on {k = zero} some p rest = absurd (omega arith)
  runs_go_on {k = suc k} some p rest = goes_on p (rw sub-one at rest)

-- where the function reads as a reader does, its run is the reader's
pub runs_are : {A : Type 0} (R : Reader State A) {post : State → Read State → Type 0} → ((st : State) (r : Read State) → post st r → r ≡ one R st)
    → {k : ℕ} {st : State} {r : Read State} → Runs post k st r → r ≡ run R k st
unfolding ◌>>=◌
runs_are R reads (none {st}) = sym (run_none R st)
runs_are R reads (stops {k} {st} {e} p) = sym (rw (run_more R (suc k) st (omega arith), ← reads st (Err e) p) refl)
runs_are R reads (goes_on {k} {st} {next} {r} p rest) =
    sym (rw (run_more R (suc k) st (omega arith), ← reads st (Ok next) p, sub-one) (sym (runs_are R reads rest)))

-- a function that gives one answer in each state runs to one answer
pub one_end : {post : State → Read State → Type 0} → ((st : State) (r r' : Read State) → post st r → post st r' → r ≡ r')
    → {k : ℕ} {st : State} {r r' : Read State} → Runs post k st r → Runs post k st r' → r ≡ r'
one_end one none none = refl
one_end one (stops p) (stops q) = one _ _ _ p q
one_end one (stops p) (goes_on q rest) = absurd (never (one _ _ _ p q))
one_end one (goes_on p rest) (stops q) = absurd (never (one _ _ _ q p))
one_end {post} one (goes_on {k} {r = r} p rest) (goes_on {r = r'} q rest') =
    one_end one rest (subst (λ (s : State). Runs post k s r') (good_same (one _ _ _ q p)) rest')
