-- What a reading gives: its meaning, or the first fault, after which nothing is read.
use Rattle.std.specs.Prelude.{ℕ, ◌+◌, Bool, true, false, cond, List, length, Result, nat_le, nat_lt}
pub use Rattle.std.specs.Prelude.{Ok, Err}
use Rattle.refusal.specs.declared.Fault.{Fault}
use Rattle.refusal.specs.declared.Refusal.{Refusal}
use Rattle.refusal.specs.declared.Refusal.TheVariants.{Order, Name}
use Rattle.wire.specs.Bytes.{number}
use Rattle.wire.specs.Field.{short}

infixl 10 ◌>>=◌ ◌>>◌
abbrev pub Read : Type 0 → Type 0
Read A = Result A Fault

-- the second reading follows the first, unless that found a fault
unfoldable pub ◌>>=◌ : {A B : Type 0} → Read A → (A → Read B) → Read B
◌>>=◌ (Ok a) f = f a
◌>>=◌ (Err e) f = Err e

-- the same, where the second doesn't need what the first gave
unfoldable pub ◌>>◌ : {A B : Type 0} → Read A → Read B → Read B
◌>>◌ (Ok a) r = r
◌>>◌ (Err e) r = Err e

-- the test passes, or this is the fault
unfoldable pub unless : Bool → Fault → Read Unit
unless true e = Ok tt
unless false e = Err e

-- the test passes, or this is the refusal, of the field that starts at this offset
abbrev pub demand : Bool → Refusal → (offset : ℕ) → Read Unit
demand t e offset = unless t (record { refusal = e; offset = offset })

-- the number that the k bytes at a position make, or LENGTH where they run past the end
unfoldable pub field : ℕ → List ℕ → ℕ → Read ℕ
field k s at = cond (nat_le (at + k) (length s)) (Ok (number k s at)) (Err short)

-- a field whose number must be below a limit, or this is its fault
unfoldable pub below : ℕ → List ℕ → (at limit : ℕ) → Fault → Read ℕ
below k s at limit fault = do
  n ← field k s at
  unless (nat_lt n limit) fault
  Ok n

-- the fault of a field that names something that doesn't exist
abbrev pub misnamed : (offset : ℕ) → Fault
misnamed offset = record { refusal = Name; offset = offset }

-- a field that names one of so many, else NAME
abbrev pub named : ℕ → List ℕ → (at limit : ℕ) → Read ℕ
named k s at limit = below k s at limit (misnamed at)

-- a source (2), one of n nodes or states, else NAME; below the one before it ORDER. Its bytes may be read from a part of the message:
-- then its offset is told beside them
unfoldable pub source_from : List ℕ → (at n prev offset : ℕ) → Read ℕ
source_from s at n prev offset = do
  v ← below 2 s at n (misnamed offset)
  demand (nat_le prev v) Order offset
  Ok v

-- the same, of a message
abbrev pub source : List ℕ → (at n prev : ℕ) → Read ℕ
source s at n prev = source_from s at n prev at
