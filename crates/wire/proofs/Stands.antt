-- Bytes that stand in a message at a position: parts one after another, fields, the whole. Assumes nothing.
use Rattle.std.proofs.Common.{◌≡◌, ℕ, ◌+◌, ◌^◌, ◌<◌, ◌≤◌, List, [], ◌++◌, length, take, drop, sym, refl, ap, ◌∙◌, append_assoc, arith, length-append, length-drop, take-append-drop, length-take, length-take-le, take_all, take-take, drop-drop, take-add}
use mathlib.Core.List.{append_cancel_left}
use lib.Seq.{take-append_seam}
use Rattle.wire.specs.Bytes.{number, bytes, Bytes}
use Rattle.wire.specs.Read.{Ok, field}
use Rattle.wire.proofs.Bytes.{length_bytes, number_below, number_bytes, bytes_number}
use Rattle.wire.proofs.Fields.{field_value, value_inside, value_is}

-- the bytes l stand in s at a position
pub record Stands (s : List ℕ) (at : ℕ) (l : List ℕ) : Type 0 where
  pub there : take (length l) (drop at s) ≡ l

-- ---- parts

pub stands_none : (s : List ℕ) (at : ℕ) → Stands s at []
stands_none s at = record { there = refl }

-- two parts stand one after the other exactly when their join stands
pub stands_first : {s : List ℕ} {at : ℕ} (l m : List ℕ) → Stands s at (l ++ m) → Stands s at l
stands_first {s} {at} l m h =
    let whole : take (length l + length m) (drop at s) ≡ l ++ m = rw length-append at h.there in
    record { there = sym (take-take (length l) (length l + length m) (drop at s) (omega arith)) ∙ ap (take (length l)) whole ∙ take-append_seam l m }

pub stands_second : {s : List ℕ} {at next : ℕ} (l m : List ℕ) → at + length l ≡ next → Stands s at (l ++ m) → Stands s next m
stands_second {s} {at} l m e h =
    let x : List ℕ = drop at s in
    let parts : l ++ take (length m) (drop (length l) x) ≡ l ++ m =
    rw (take-add (length l) (length m) x, (stands_first l m h).there) at (rw length-append at h.there) in
    record { there = rw (← e, ← drop-drop) (append_cancel_left l _ m parts) }

pub stands_both : {s : List ℕ} {at next : ℕ} {l m : List ℕ} → at + length l ≡ next → Stands s at l → Stands s next m → Stands s at (l ++ m)
stands_both {s} {at} {next} {l} {m} e p q =
    record { there = rw (length-append, take-add, p.there, drop-drop, e, q.there) }

-- what stands lies inside
pub stands_inside : {s : List ℕ} {at : ℕ} {l : List ℕ} → Stands s at l → 0 < length l → at + length l ≤ length s
stands_inside {s} {at} {l} h some = omega (arith, simp (length-take, length-drop) at (ap length h.there))

-- what stands where it reaches the end is all that is left
pub stands_last : {s : List ℕ} {at : ℕ} {l : List ℕ} → Stands s at l → length s ≤ at + length l → drop at s ≡ l
stands_last {s} {at} {l} h e = sym (take_all (length l) (drop at s) (simp length-drop (omega arith))) ∙ h.there

-- the message around it
pub stands_parts : {s : List ℕ} {at : ℕ} {l : List ℕ} → at ≤ length s → Stands s at l → s ≡ take at s ++ l ++ drop (at + length l) s
stands_parts {s} {at} {l} le h =
    let rest : l ++ drop (at + length l) s ≡ drop at s = rw (← drop-drop) (ap (λ (x : List ℕ). x ++ drop (length l) (drop at s)) (sym h.there) ∙ take-append-drop (length l) (drop at s)) in
    rw (append_assoc, rest) (sym (take-append-drop at s))

-- a list stands in itself
pub stands_self : (s : List ℕ) → Stands s 0 s
stands_self s = record { there = take_all (length s) s (omega arith) }

-- ---- fields

pub value_stands : (k : ℕ) {s : List ℕ} {at n : ℕ} → Bytes s → field k s at ≡ Ok n → Stands s at (bytes k n) × (n < 256 ^ k)
value_stands k {s} {at} {n} b e =
    rw (← value_is k s at e) (
      record { there = rw length_bytes (sym (bytes_number k s at b (value_inside k s at e))) },
      number_below k s at b,
    )

pub field_stands : (k : ℕ) {s : List ℕ} {at n : ℕ} → Bytes s → field k s at ≡ Ok n → Stands s at (bytes k n) × (n < 256 ^ k)
field_stands k {s} {at} b e = value_stands k b e

pub stands_field : (k : ℕ) {s : List ℕ} {at n : ℕ} → 0 < k → Stands s at (bytes k n) → n < 256 ^ k → field k s at ≡ Ok n
stands_field k {s} {at} {n} some h below =
    let inside : at + k ≤ length s = rw length_bytes at (stands_inside h (rw length_bytes some)) in
    let front : length (take at s) ≡ at = length-take-le at s (omega arith) in
    let is : number k s at ≡ n =
    ap (λ (x : List ℕ). number k x at) (stands_parts (omega arith) h) ∙ (rw front at (number_bytes k n (take at s) (drop (at + length (bytes k n)) s) below)) in
    rw (field_value k s at inside, is) refl
