-- A turn of a scan: where a record that is read leads, and that the run of the rest is the whole run. Assumes nothing.
use Prim.Native.Nat.{ℕ, ◌+◌, ◌-◌, ◌<◌}
use mathlib.Core.List.{List}
use mathlib.Core.Path.{◌≡◌, sym, ◌∙◌}
use Rattle.wire.specs.Bytes.{number}
use Rattle.wire.specs.Read.{Ok}
use Rattle.wire.specs.Reader.{Reader, one, run}
use Rattle.wire.specs.declared.State.{State}
use Rattle.wire.proofs.Reading.{bind_good, good_same, good_then}
use Rattle.wire.proofs.Readers.{run_more}
use Rattle.graph.specs.Format.{target_count_at, cover_width}
use Rattle.graph.specs.Message.{hypers, covers, after_hyper}
use Rattle.graph.proofs.Fused.{hyper_reads, hyper_fits, cover_reads, cover_fits}

-- where a record leads
module _ (s : List ℕ) (n : ℕ) where
  pub hyper_next : (st : State) {next : State} → one (hypers s n) st ≡ Ok next → next ≡ after_hyper st (number 2 s st.at) (number 2 s (st.at + target_count_at))
  hyper_next st e = good_same (sym e ∙ hyper_reads s n st (hyper_fits s n st e))

  pub cover_next : (st : State) {next : State} → one (covers s n) st ≡ Ok next → next ≡ record { at = st.at + cover_width; prev = number 2 s st.at; seen = st.seen }
  cover_next st e = good_same (sym e ∙ cover_reads s n st (cover_fits s n st e))

-- a turn of a loop over records: the rest's run is the whole run
module _ {A : Type 0} (R : Reader State A) (i : ℕ) (st : State) where
  pub run_turn : {next : State} → 0 < i → one R st ≡ Ok next → run R i st ≡ run R (i - 1) next
  run_turn h e = rw (run_more R i st h, e) (good_then _ _)

  -- the next record of a good run is good
  pub run_next : {past : State} → 0 < i → run R i st ≡ Ok past → (next : State) × (one R st ≡ Ok next)
  run_next h e = let w = bind_good _ _ (sym (run_more R i st h) ∙ e) in (w.value, w.first)
