-- Where a fault lies in its message, and what mends it.
use Rattle.std.specs.Prelude.{◌≡◌, ℕ, ◌+◌, ◌^◌, ◌<◌, ◌≤◌, ◌⊎◌, List, length, take}
use Rattle.refusal.specs.declared.Fault.{Fault}
use Rattle.refusal.specs.Number.{nowhere}
use Rattle.wire.specs.Bytes.{number, put}
use Rattle.wire.specs.Field.{width_of}
use Rattle.wire.specs.Read.{Read, Err}
use Rattle.wire.specs.declared.Count.{Count}
use Rattle.wire.specs.declared.Width.{Width}

-- the number where a count of the header stands
abbrev pub told : List ℕ → Count → ℕ
told s count = number (width_of count.width) s count.at

-- a field starts at the offset, and lies inside the message
pub record FieldAt (FieldStart : ℕ → Width → Type 0) (s : List ℕ) (offset : ℕ) : Type 0 where
  pub width : Width
  pub starts : FieldStart offset width
  pub inside : offset + width_of width ≤ length s

-- no field is at fault, or one that starts at the fault's offset
abbrev pub Located : (FieldStart : ℕ → Width → Type 0) → List ℕ → Fault → Type 0
Located FieldStart s f = (f.offset ≡ nowhere) ⊎ FieldAt FieldStart s f.offset

-- no field is at fault, or one that starts at this offset or behind it
abbrev pub From : ℕ → Fault → Type 0
From offset f = (f.offset ≡ nowhere) ⊎ (offset ≤ f.offset)

-- a message of the same length, with the same bytes before the offset: whatever one writes from there on
pub record SameBefore (offset : ℕ) (s s' : List ℕ) : Type 0 where
  pub as_long : length s' ≡ length s
  pub bytes_are : take offset s' ≡ take offset s

-- the field at the offset can be mended: with this number in it the message reads past it
pub record Mendable {A : Type 0} (FieldStart : ℕ → Width → Type 0) (read : List ℕ → Read A) (s : List ℕ) (offset : ℕ) : Type 0 where
  pub place : FieldAt FieldStart s offset
  pub value : ℕ
  pub fits : value < 256 ^ width_of place.width
  pub reads_past : {f : Fault} → read (put s offset (width_of place.width) value) ≡ Err f → From (offset + 1) f
