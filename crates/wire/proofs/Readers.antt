-- The turns of a loop over records, and what a good reading of them says. Assumes nothing.
use Rattle.std.proofs.Common.{◌≡◌, ℕ, zero, suc, ◌+◌, ◌-◌, ◌*◌, ◌<◌, List, [], ◌∷◌, length, sym, refl, ap, ◌∙◌, subst, not-suc-le-zero, sub-one, arith}
use Rattle.refusal.specs.declared.Fault.{Fault}
use Rattle.wire.specs.Read.{Read, Ok, Err, ◌>>=◌}
use Rattle.wire.specs.Reader.{Reader, read_all, past, one, run}
use Rattle.wire.proofs.Reading.{bind_good, good_same, never}

module _ {S A : Type 0} (R : Reader S A) where
  pub run_none : (st : S) → run R 0 st ≡ Ok st
  unfolding run read_all past ◌>>=◌
  run_none st = refl

  run_suc : (k : ℕ) (st : S) → run R (suc k) st ≡ one R st >>= run R k
  unfolding run read_all past ◌>>=◌
  run_suc k st = first (R.read st)
    where
      rest : (a : A) (y : Read (List A)) → (y >>= λ xs. Ok (a ∷ xs)) >>= (λ xs. Ok (past R st xs)) ≡ y >>= λ xs. Ok (past R (R.next st a) xs)
      rest a (Ok xs) = refl
      rest a (Err e) = refl

      first : (x : Read A) → (x >>= λ a. read_all R k (R.next st a) >>= λ xs. Ok (a ∷ xs)) >>= (λ xs. Ok (past R st xs)) ≡ (x >>= λ a. Ok (R.next st a)) >>= run R k
      first (Ok a) = rest a (read_all R k (R.next st a))
      first (Err e) = refl

  -- a loop's turn: one record, then the k - 1 that are left
  pub run_more : (k : ℕ) (st : S) → 0 < k → run R k st ≡ one R st >>= run R (k - 1)
  run_more zero st h = absurd (not-suc-le-zero h)
  run_more (suc k) st h = simp sub-one (run_suc k st)

  -- the last one
  pub run_one : (st : S) → run R 1 st ≡ one R st
  unfolding run read_all past ◌>>=◌
  run_one st = go (R.read st)
    where
      go : (x : Read A) → (x >>= λ a. read_all R 0 (R.next st a) >>= λ xs. Ok (a ∷ xs)) >>= (λ xs. Ok (past R st xs)) ≡ x >>= λ a. Ok (R.next st a)
      go (Ok a) = refl
      go (Err e) = refl

  -- k records are k
  pub all_length : (k : ℕ) (st : S) (xs : List A) → read_all R k st ≡ Ok xs → length xs ≡ k
  unfolding read_all
  all_length zero st xs e = ap length (sym (good_same e))
  all_length (suc k) st xs e =
      let a = bind_good _ _ e in
      let r = bind_good _ _ a.rest in
      ap length (sym (good_same r.rest)) ∙ ap suc (all_length k (R.next st a.value) r.value r.first)

  -- what a good run read
  pub record Ran (k : ℕ) (st end : S) : Type 0 where
    pub got : List A
    pub there : read_all R k st ≡ Ok got
    pub ends : past R st got ≡ end

  pub run_good : (k : ℕ) (st end : S) → run R k st ≡ Ok end → Ran k st end
  unfolding run
  run_good k st end e =
      let xs = bind_good _ _ e in
      record { got = xs.value; there = xs.first; ends = good_same xs.rest }

  pub run_bad : (k : ℕ) (st : S) (f : Fault) → run R k st ≡ Err f → read_all R k st ≡ Err f
  unfolding run ◌>>=◌
  run_bad k st f e = go (read_all R k st) e
    where
      go : (x : Read (List A)) → (x >>= λ xs. Ok (past R st xs)) ≡ Err f → x ≡ Err f
      go (Ok xs) h = absurd (never (sym h))
      go (Err g) h = cc

  -- what each good record leaves holds at the end of a good run
  pub run_keeps : (P : S → Type 0) → ((st next : S) → one R st ≡ Ok next → P next) → (k : ℕ) (st end : S) → P st → run R k st ≡ Ok end → P end
  run_keeps P each zero st end p e = subst P (good_same (sym (run_none st) ∙ e)) p
  run_keeps P each (suc k) st end p e =
      let r = bind_good _ _ (sym (run_suc k st) ∙ e) in
      run_keeps P each k r.value end (each st r.value r.first) r.rest

-- where records end doesn't depend on how they are read
pub past_same : {S A : Type 0} (R R' : Reader S A) → R.next ≡ R'.next → (st : S) (xs : List A) → past R st xs ≡ past R' st xs
unfolding past
past_same R R' is st [] = refl
past_same R R' is st (a ∷ xs) = past_same R R' is (R.next st a) xs ∙ ap (λ (f : _ → _ → _). past R' (f st a) xs) is

-- records of one width
pub past_wide : {S A : Type 0} (R : Reader S A) (w : ℕ) → ((st : S) (a : A) → R.position (R.next st a) ≡ R.position st + w)
    → (st : S) (xs : List A) → R.position (past R st xs) ≡ R.position st + length xs * w
unfolding past
past_wide R w wide st [] = omega arith
past_wide R w wide st (a ∷ xs) = omega (arith, past_wide R w wide (R.next st a) xs, wide st a)
