-- Records that say in their first two bytes where they come from, and in their last two where they lead, tested by position.
use Rattle.std.specs.Prelude.{ℕ, zero, suc, ◌+◌, List, Bool, true, cond, ◌&&◌, leb, ltb, Option, Some, None}
use Rattle.wire.specs.Bytes.{number}

-- a record ends behind its target
abbrev pub record_width : (target_at : ℕ) → ℕ
record_width target_at = target_at + 2

-- in k records, one behind another, no source is below the one before it, and sources and targets are below n
unfoldable pub in_order : List ℕ → (n target_at k prev at : ℕ) → Bool
in_order s n target_at zero prev at = true
in_order s n target_at (suc k) prev at =
    let source = number 2 s at in
    let target = number 2 s (at + target_at) in
    leb prev source && (ltb source n && (ltb target n && in_order s n target_at k source (at + record_width target_at)))

-- the source that stands behind a target, where the target is below n and the source not below the one before
unfoldable pub source_behind : List ℕ → (n before at : ℕ) → Option ℕ
source_behind s n before at =
    let source = number 2 s (at + 2) in
    cond (ltb (number 2 s at) n && leb before source) (Some source) None

-- the last record, whose source is the greatest, names only what is below n
unfoldable pub last_named : List ℕ → (n target_at at greatest : ℕ) → Bool
last_named s n target_at at greatest = ltb greatest n && ltb (number 2 s (at + target_at)) n
