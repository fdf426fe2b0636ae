-- A loop over records that keeps what it has read: that, and the records that are left, are the whole reading. Assumes nothing.
use Prim.Native.Nat.{ℕ, zero, suc, ◌-◌, ◌<◌}
use mathlib.Core.List.{List, [], ◌∷◌, ◌++◌, append-nil, append_assoc}
use mathlib.Core.Path.{◌≡◌, refl, sym, ap, ◌∙◌}
use native.Mathlib.Nat.{not-suc-le-zero}
use native.Mathlib.Numerals.{sub-one}
use native.Mathlib.Omega.{arith}
use Rattle.refusal.specs.declared.Fault.{Fault}
use Rattle.wire.specs.Read.{Read, Ok, Err, ◌>>=◌}
use Rattle.wire.specs.Reader.{Reader, read_all}

-- those that were got, of k from st₀ on, and the i that are left from st on
pub record Begun {S A : Type 0} (R : Reader S A) (k : ℕ) (st₀ : S) (got : List A) (i : ℕ) (st : S) : Type 0 where
  pub whole : read_all R k st₀ ≡ (read_all R i st >>= λ rest. Ok (got ++ rest))

module _ {S A : Type 0} (R : Reader S A) (k : ℕ) (st₀ : S) where
  pub begun : Begun R k st₀ [] k st₀
  unfolding ◌>>=◌
  begun = record { whole = go (read_all R k st₀) }
    where
      go : (x : Read (List A)) → x ≡ (x >>= λ rest. Ok rest)
      go (Ok xs) = refl
      go (Err e) = refl

module _ {S A : Type 0} {R : Reader S A} {k : ℕ} {st₀ : S} {got : List A} where
  -- one more is read
  pub begun_next : (i : ℕ) {st : S} {a : A} → 0 < i → Begun R k st₀ got i st → R.read st ≡ Ok a → Begun R k st₀ (got ++ (a ∷ [])) (i - 1) (R.next st a)
  unfolding ◌>>=◌ read_all
  begun_next zero h b e = absurd (not-suc-le-zero h)
  begun_next (suc i) {st} {a} h b e = record { whole = simp sub-one (b.whole ∙ rw e (go (read_all R i (R.next st a)))) }
    where
      go : (x : Read (List A)) → ((x >>= λ xs. Ok (a ∷ xs)) >>= λ rest. Ok (got ++ rest)) ≡ (x >>= λ rest. Ok (got ++ (a ∷ []) ++ rest))
      go (Ok xs) = ap Ok (sym (append_assoc got (a ∷ []) xs))
      go (Err f) = refl

  -- the next one has a fault: so has the whole
  pub begun_bad : (i : ℕ) {st : S} {f : Fault} → 0 < i → Begun R k st₀ got i st → R.read st ≡ Err f → read_all R k st₀ ≡ Err f
  unfolding ◌>>=◌ read_all
  begun_bad zero h b e = absurd (not-suc-le-zero h)
  begun_bad (suc i) h b e = b.whole ∙ rw e refl

  -- none is left
  pub begun_none : (i : ℕ) {st : S} → i ≡ 0 → Begun R k st₀ got i st → read_all R k st₀ ≡ Ok got
  unfolding ◌>>=◌ read_all
  begun_none zero h b = b.whole ∙ ap Ok (append-nil got)
  begun_none (suc i) h b = absurd (omega arith)
