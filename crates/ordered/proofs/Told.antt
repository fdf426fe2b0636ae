-- What a field that was read tells of the bytes, and a name that is read with the two bytes behind it. Assumes nothing.
use Prim.Native.Nat.{ℕ, ◌+◌, ◌*◌, ◌-◌, ◌≤◌}
use mathlib.Core.List.{List}
use mathlib.Core.Bool.{Bool, true, false, cond}
use mathlib.Core.Path.{◌≡◌, refl, sym, ap, ◌∙◌}
use lib.ListN.{length, take, drop}
use lib.Dec.{ltb}
use borrow.Author.Tests.{ltb-true, ltb-false, lt-ltb, le-ltb}
use native.Mathlib.Nat.{add-zero}
use native.Mathlib.Omega.{arith}
use Rattle.lists.proofs.Tests.{by_test}
use Rattle.refusal.specs.declared.Fault.{Fault}
use Rattle.std.specs.Prelude.{Some, None}
use Rattle.std.specs.Result.{is_ok, result_ok}
use Rattle.wire.specs.Bytes.{number, Bytes}
use Rattle.wire.specs.Read.{Read, Ok, Err, field, below, unless, ◌>>=◌, ◌>>◌}
use Rattle.wire.proofs.Bytes.{two_and_two}
use Rattle.wire.proofs.Fields.{field_value, part_field}
use Rattle.wire.proofs.Reading.{cut_below}

-- a field that fits is read, and tested by what stands there
pub below_here : (k : ℕ) (s : List ℕ) (at limit : ℕ) (fault : Fault) → at + k ≤ length s
    → below k s at limit fault ≡ cond (ltb (number k s at) limit) (Ok (number k s at)) (Err fault)
unfolding below ◌>>=◌ ◌>>◌ unless
below_here k s at limit fault inside = rw (field_value k s at inside) (go (ltb (number k s at) limit))
  where
    go : (t : Bool) → unless t fault >> Ok (number k s at) ≡ cond t (Ok (number k s at)) (Err fault)
    go true = refl
    go false = refl

-- so is one that is read from a part of the message, and from a part that is the field alone
pub below_part : (k : ℕ) (s : List ℕ) (at end x limit : ℕ) (fault : Fault) → end ≤ length s → at + x + k ≤ end
    → below k (take (end - at) (drop at s)) x limit fault ≡ cond (ltb (number k s (at + x)) limit) (Ok (number k s (at + x))) (Err fault)
below_part k s at end x limit fault inside fits = cut_below s at end inside k x limit fault fits ∙ below_here k s (at + x) limit fault (omega arith)

pub below_alone : (k : ℕ) (s : List ℕ) (at limit : ℕ) (fault : Fault) → at + k ≤ length s
    → below k (take (at + k - at) (drop at s)) 0 limit fault ≡ cond (ltb (number k s at) limit) (Ok (number k s at)) (Err fault)
below_alone k s at limit fault inside = rw add-zero at (below_part k s at (at + k) 0 limit fault inside (omega arith))

-- and a field that nothing is asked of
pub field_alone : (k : ℕ) (s : List ℕ) (at : ℕ) → at + k ≤ length s → field k (take (at + k - at) (drop at s)) 0 ≡ Ok (number k s at)
field_alone k s at inside = (rw add-zero at (part_field s at (at + k - at) k 0 (omega arith) (omega arith))) ∙ field_value k s at inside

-- a name can be tested with the two bytes behind it
pub named_above : (s : List ℕ) (n at : ℕ) → Bytes s → ltb (number 4 s at) (n * 65536) ≡ ltb (number 2 s at) n
named_above s n at bytes =
    let both = two_and_two s at bytes in
    by_test (ltb (number 2 s at) n)
    (λ t. lt-ltb (number 4 s at) (n * 65536) (omega (arith, ltb-true (number 2 s at) n t)) ∙ sym t)
    (λ f. le-ltb (number 4 s at) (n * 65536) (omega (arith, ltb-false (number 2 s at) n f)) ∙ sym f)

-- so with those bytes it is read from a part, and tested as the name alone
pub both_part : (s : List ℕ) (n at end x : ℕ) (fault : Fault) → Bytes s → end ≤ length s → at + x + 4 ≤ end
    → below 4 (take (end - at) (drop at s)) x (n * 65536) fault ≡ cond (ltb (number 2 s (at + x)) n) (Ok (number 4 s (at + x))) (Err fault)
both_part s n at end x fault bytes inside fits =
    below_part 4 s at end x (n * 65536) fault inside fits ∙ ap (λ (t : Bool). cond t (Ok (number 4 s (at + x))) (Err fault)) (named_above s n (at + x) bytes)

pub both_alone : (s : List ℕ) (n at : ℕ) (fault : Fault) → Bytes s → at + 4 ≤ length s
    → below 4 (take (at + 4 - at) (drop at s)) 0 (n * 65536) fault ≡ cond (ltb (number 2 s at) n) (Ok (number 4 s at)) (Err fault)
both_alone s n at fault bytes inside = rw add-zero at (both_part s n at (at + 4) 0 fault bytes inside (omega arith))

-- what a test tells of an answer: whether it is good, and then its number
pub told_ok : {r : Read ℕ} (t : Bool) (x : ℕ) (f : Fault) → r ≡ cond t (Ok x) (Err f) → is_ok r ≡ t
told_ok true x f e = ap is_ok e
told_ok false x f e = ap is_ok e

pub told_passes : {r : Read ℕ} (t : Bool) (x : ℕ) (f : Fault) {v : ℕ} → r ≡ cond t (Ok x) (Err f) → Some v ≡ result_ok r → (t ≡ true) × (v ≡ x)
told_passes true x f {v} e is = let same : Some v ≡ Some x = is ∙ ap result_ok e in (refl, cc)
told_passes false x f {v} e is = let none : Some v ≡ None = is ∙ ap result_ok e in let z : ◌≡◌ {A = ℕ} 0 1 = cc in absurd (omega arith)
