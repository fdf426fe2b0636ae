-- A list of records read one after another, each in the state that the ones before it left: the records, or the first fault.
use Rattle.std.specs.Prelude.{ℕ, zero, suc, List, [], ◌∷◌}
use Rattle.wire.specs.Read.{Read, Ok, ◌>>=◌}

-- where a state stands in the message, how a record is read in it, and the state past the record
pub record Reader (S A : Type 0) : Type 0 where
  pub position : S → ℕ
  pub read : S → Read A
  pub next : S → A → S

module _ {S A : Type 0} (R : Reader S A) where
  -- k records
  unfoldable pub read_all : ℕ → S → Read (List A)
  read_all zero st = Ok []
  read_all (suc k) st = do
    a ← R.read st
    xs ← read_all k (R.next st a)
    Ok (a ∷ xs)

  -- the state past a list of records
  unfoldable pub past : S → List A → S
  past st [] = st
  past st (a ∷ xs) = past (R.next st a) xs

  -- the state past one record, and past k: what a check keeps of the reading
  abbrev pub one : S → Read S
  one st = R.read st >>= λ a. Ok (R.next st a)

  unfoldable pub run : ℕ → S → Read S
  run k st = read_all k st >>= λ xs. Ok (past st xs)
