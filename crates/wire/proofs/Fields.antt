-- What a field that is there, or too short, says of the bytes. Assumes nothing.
use Rattle.std.proofs.Common.{◌≡◌, ℕ, zero, suc, ◌+◌, ◌*◌, ◌<◌, ◌≤◌, Bool, true, false, cond, leb, List, length, get_or, take, drop, sym, refl, ap, ◌∙◌, ap₂, arith, length-drop, length-take-le, get_or-drop, get_or-take, le-leb, leb-false, leb-true}
use borrow.Author.Tests.{lt-leb}
use Rattle.refusal.specs.declared.Fault.{Fault}
use Rattle.wire.specs.Read.{Ok, Err, field}
use Rattle.wire.specs.Bytes.{number}
use Rattle.wire.specs.Field.{width_of, short}
use Rattle.wire.specs.declared.Width.{Width}
use Rattle.wire.specs.declared.Width.TheVariants.{One, Two, Four}

pub field_short : (k : ℕ) (s : List ℕ) (at : ℕ) → length s < at + k → field k s at ≡ Err short
unfolding field
field_short k s at h = rw (lt-leb (at + k) (length s) h)

pub field_value : (k : ℕ) (s : List ℕ) (at : ℕ) → at + k ≤ length s → field k s at ≡ Ok (number k s at)
unfolding field
field_value k s at h = rw (le-leb (at + k) (length s) h)

-- a field with a value lies inside
pub value_inside : (k : ℕ) (s : List ℕ) (at : ℕ) {n : ℕ} → field k s at ≡ Ok n → at + k ≤ length s
unfolding field
value_inside k s at {n} e = go (leb (at + k) (length s)) refl e
  where
    go : (t : Bool) → leb (at + k) (length s) ≡ t → cond t (Ok (number k s at)) (Err short) ≡ Ok n → at + k ≤ length s
    go true h e' = leb-true (at + k) (length s) h
    go false h e' = let z : ◌≡◌ {A = ℕ} 0 1 = cc in omega arith

-- one that is refused runs past the end
pub short_past : (k : ℕ) (s : List ℕ) (at : ℕ) {f : Fault} → field k s at ≡ Err f → length s < at + k
unfolding field
short_past k s at {f} e = go (leb (at + k) (length s)) refl e
  where
    go : (t : Bool) → leb (at + k) (length s) ≡ t → cond t (Ok (number k s at)) (Err short) ≡ Err f → length s < at + k
    go true h e' = let z : ◌≡◌ {A = ℕ} 0 1 = cc in omega arith
    go false h e' = leb-false (at + k) (length s) h

-- one with a value is the number that stands there
pub value_is : (k : ℕ) (s : List ℕ) (at : ℕ) {n : ℕ} → field k s at ≡ Ok n → number k s at ≡ n
value_is k s at {n} e = let there : Ok n ≡ Ok (number k s at) = sym e ∙ field_value k s at (value_inside k s at e) in cc

-- a field that fits is there, with the number that was read at its place
pub fits_there : (k : ℕ) (s : List ℕ) (at : ℕ) {r : ℕ} → at + k ≤ length s → r ≡ number k s at → field k s at ≡ Ok r
fits_there k s at h e = field_value k s at h ∙ ap Ok (sym e)

-- no field has more than 4 bytes
pub width_le : (w : Width) → width_of w ≤ 4
width_le One = omega arith
width_le Two = omega arith
width_le Four = omega arith

-- and none has less than 1
pub width_some : (w : Width) → 0 < width_of w
width_some One = omega arith
width_some Two = omega arith
width_some Four = omega arith

-- a field is refused for one reason only
pub refused_short : (k : ℕ) (s : List ℕ) (at : ℕ) {e : Fault} → field k s at ≡ Err e → e ≡ short
refused_short k s at {e} h = let is : Err e ≡ Err short = sym h ∙ field_short k s at (short_past k s at h) in cc

-- a part of a message has the fields of the message
module _ (s : List ℕ) (at w : ℕ) where
  part_number : (k x : ℕ) → x + k ≤ w → number k (take w (drop at s)) x ≡ number k s (at + x)
  unfolding number
  part_number zero x h = refl
  part_number (suc k) x h =
      let first = part_number k x (omega arith) in
      let byte : get_or (take w (drop at s)) (x + k) 0 ≡ get_or s (at + x + k) 0 =
      get_or-take w (drop at s) (x + k) 0 (omega arith) ∙ get_or-drop at s (x + k) 0 ∙ ap (λ (i : ℕ). get_or s i 0) (omega arith) in
      ap₂ (λ (a b : ℕ). a * 256 + b) first byte

  pub part_field : (k x : ℕ) → at + w ≤ length s → x + k ≤ w → field k (take w (drop at s)) x ≡ field k s (at + x)
  part_field k x inside h =
      let long : length (take w (drop at s)) ≡ w = length-take-le w (drop at s) (simp length-drop (omega arith)) in
      field_value k (take w (drop at s)) x (omega arith) ∙ ap Ok (part_number k x h) ∙ sym (field_value k s (at + x) (omega arith))
