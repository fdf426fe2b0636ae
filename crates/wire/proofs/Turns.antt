-- The turns of a loop over records. Assumes nothing.
use Rattle.std.proofs.Common.{◌≡◌, ℕ, ◌-◌, ◌<◌, sym, ap, ◌∙◌}
use Rattle.refusal.specs.declared.Fault.{Fault}
use Rattle.wire.specs.Read.{Read, Ok, Err}
use Rattle.wire.specs.Reader.{Reader, one, run}
use Rattle.wire.specs.declared.State.{State}
use Rattle.wire.proofs.Reading.{good_then, bad_then}
use Rattle.wire.proofs.Readers.{run_none, run_more}

-- a loop over records, whose answer is w: where its next record is good, where it is not, and at its end
module _ (A : Type 0) (R : Reader State A) (i : ℕ) (st : State) {w : Read State} (whole : run R i st ≡ w) where
  pub turn_next : {next : State} → 0 < i → Ok next ≡ one R st → run R (i - 1) next ≡ w
  turn_next h read = sym (rw (run_more R i st h, ← read, good_then)) ∙ whole

  pub turn_refused : {f : Fault} → 0 < i → Err f ≡ one R st → Err f ≡ w
  turn_refused {f} h read = let stopped : run R i st ≡ Err f = rw (run_more R i st h, ← read, bad_then) in sym stopped ∙ whole

  pub turn_none : i ≡ 0 → Ok st ≡ w
  turn_none h = sym (run_none R st) ∙ ap (λ (k : ℕ). run R k st) (sym h) ∙ whole
