-- Where the fault of a formula message is: of no field, or of a field that starts inside the message.
use Rattle.std.specs.Prelude.{ℕ, suc, ◌+◌, ◌≤◌, ◌<◌, List, ◌≡◌, length}
use Rattle.refusal.specs.declared.Fault.{Fault}
use Rattle.refusal.specs.Number.{nowhere}
use Rattle.wire.specs.Start.{version_at, kind_at}
use Rattle.syntax.specs.Format.{rows_count, left_at, right_at, zero_at, bound_at, place_of}

-- where a field of the message s starts: the version, the kind, the row count, or a field of row i, which is inside
pub data FieldStart (s : List ℕ) : ℕ → Type 0 where
  version : FieldStart s version_at
  kind : FieldStart s kind_at
  row_count : FieldStart s rows_count.at
  operator : (i : ℕ) → place_of (suc i) ≤ length s → FieldStart s (place_of i)
  left : (i : ℕ) → place_of (suc i) ≤ length s → FieldStart s (place_of i + left_at)
  right : (i : ℕ) → place_of (suc i) ≤ length s → FieldStart s (place_of i + right_at)
  zero : (i : ℕ) → place_of (suc i) ≤ length s → FieldStart s (place_of i + zero_at)
  bound : (i : ℕ) → place_of (suc i) ≤ length s → FieldStart s (place_of i + bound_at)

pub data Located (s : List ℕ) (f : Fault) : Type 0 where
  of_no_field : f.offset ≡ nowhere → Located s f
  of_field : f.offset < length s → FieldStart s f.offset → Located s f
