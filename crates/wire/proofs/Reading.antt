-- How a reading goes on, and what a good one says. Assumes nothing.
use Rattle.std.proofs.Common.{ap, IsErr, IsErrAnd, ◌≡◌, ℕ, ◌+◌, ◌-◌, ◌<◌, ◌≤◌, Bool, true, false, ◌&&◌, ltb, leb, List, length, take, drop, sym, refl, ◌∙◌, add-zero, arith, ltb-false, ltb-true, lt-ltb, le-leb, leb-true}
use Rattle.refusal.specs.declared.Fault.{Fault}
use Rattle.wire.specs.Read.{Read, Ok, Err, ◌>>=◌, ◌>>◌, unless, field, below, misnamed, source_from}
use Rattle.lists.proofs.Tests.{and_left, and_right}
use Rattle.wire.proofs.Fields.{part_field}

-- how a reading goes on, for `simp reading`
pub good_then : {A B : Type 0} (a : A) (f : A → Read B) → Ok a >>= f ≡ f a
unfolding ◌>>=◌
good_then a f = refl

pub bad_then : {A B : Type 0} (e : Fault) (f : A → Read B) → Err e >>= f ≡ Err e
unfolding ◌>>=◌
bad_then e f = refl

pub good_and : {A B : Type 0} (a : A) (r : Read B) → Ok a >> r ≡ r
unfolding ◌>>◌
good_and a r = refl

pub bad_and : (A : Type 0) {B : Type 0} (e : Fault) (r : Read B) → ◌>>◌ {A = A} (Err e) r ≡ Err e
unfolding ◌>>◌
bad_and A e r = refl

pub met : (e : Fault) → unless true e ≡ Ok tt
unfolding unless
met e = refl

pub unmet : (e : Fault) → unless false e ≡ Err e
unfolding unless
unmet e = refl

pub ruleset reading = (good_then, bad_then, good_and, bad_and, met, unmet)

-- no reading is both
pub never : {A : Type 0} {r : Fault} {a : A} → Err r ≡ Ok a → ⊥
never e = let z : ◌≡◌ {A = ℕ} 0 1 = cc in omega arith

pub good_same : {A : Type 0} {a b : A} → ◌≡◌ {A = Read A} (Ok a) (Ok b) → a ≡ b
good_same e = cc

pub bad_same : {A : Type 0} {e f : Fault} → ◌≡◌ {A = Read A} (Err e) (Err f) → e ≡ f
bad_same p = cc

-- a fault that `?` hands on
pub passed : {A : Type 0} {r : Read A} {e : Fault} → IsErr r × IsErrAnd r (λ f. f ≡ e) → r ≡ Err e
passed {r = Ok a} p = absurd p.1
passed {r = Err f} p = ap Err p.1

-- a call that gave a fault, which `?` hands on, and one that gave a value: what follows the reading that it did
pub faulted : {A B : Type 0} {x : Read A} {e : Fault} {r : Read B} (f : A → Read B) → Err e ≡ x → IsErr r × IsErrAnd r (λ g. g ≡ e) → r ≡ x >>= f
faulted f is p = passed p ∙ sym (rw (← is) (bad_then _ f))

pub went_on : {A B : Type 0} {x : Read A} {a : A} (f : A → Read B) → Ok a ≡ x → f a ≡ x >>= f
went_on f is = sym (rw (← is) (good_then _ f))

-- a reading that goes on was good so far
pub record Went {A B : Type 0} (x : Read A) (f : A → Read B) (b : B) : Type 0 where
  pub value : A
  pub first : x ≡ Ok value
  pub rest : f value ≡ Ok b

pub bind_good : {A B : Type 0} (x : Read A) (f : A → Read B) {b : B} → x >>= f ≡ Ok b → Went x f b
unfolding ◌>>=◌
bind_good (Ok a) f e = record { value = a; first = refl; rest = e }
bind_good (Err r) f e = absurd (never e)

pub and_good : {B : Type 0} (x : Read Unit) (r : Read B) {b : B} → x >> r ≡ Ok b → (x ≡ Ok tt) × (r ≡ Ok b)
unfolding ◌>>◌
and_good (Ok a) r e = (refl, e)
and_good (Err f) r e = absurd (never e)

pub demand_good : {B : Type 0} (t : Bool) (e : Fault) (r : Read B) {b : B} → unless t e >> r ≡ Ok b → (t ≡ true) × (r ≡ Ok b)
unfolding ◌>>◌ unless
demand_good true e r h = (refl, h)
demand_good false e r h = absurd (never h)

-- a field with its limit: what a good one says, that one within it is read, and that a part of a message has it
module _ (k : ℕ) (s : List ℕ) (at limit : ℕ) (fault : Fault) where
  pub below_good : {n : ℕ} → below k s at limit fault ≡ Ok n → (field k s at ≡ Ok n) × (n < limit)
  unfolding below
  below_good {n} e =
      let v = bind_good _ _ e in
      let less = demand_good _ _ _ v.rest in
      let same = good_same less.1 in
      (rw (← same) v.first, rw (← same) (ltb-true _ _ less.0))

  pub good_below : {n : ℕ} → field k s at ≡ Ok n → n < limit → below k s at limit fault ≡ Ok n
  unfolding below
  good_below {n} e less = simp (e, lt-ltb n limit less, good_then, good_and, met)

  -- one that is there, and is refused, has its limit's fault
  pub below_over : {n : ℕ} {f : Fault} → field k s at ≡ Ok n → below k s at limit fault ≡ Err f → (limit ≤ n) × (f ≡ fault)
  unfolding below unless
  below_over {n} {f} here e = go (ltb n limit) refl (sym (simp (here, good_then)) ∙ e)
    where
      go : (t : Bool) → ltb n limit ≡ t → unless t fault >> Ok n ≡ Err f → (limit ≤ n) × (f ≡ fault)
      go true h e' = absurd (never (sym e' ∙ good_and tt (Ok n)))
      go false h e' = (ltb-false n limit h, bad_same (sym e' ∙ bad_and Unit fault (Ok n)))

pub part_below : (k : ℕ) (s : List ℕ) (at w x limit : ℕ) (fault : Fault) → at + w ≤ length s → x + k ≤ w → below k (take w (drop at s)) x limit fault ≡ below k s (at + x) limit fault
unfolding below
part_below k s at w x limit fault inside h = rw (part_field s at w k x inside h) refl

-- the same of a source
module _ (s : List ℕ) (at n prev offset : ℕ) where
  pub source_good : {v : ℕ} → source_from s at n prev offset ≡ Ok v → (field 2 s at ≡ Ok v) × ((v < n) × (prev ≤ v))
  unfolding source_from
  source_good {v} e =
      let u = bind_good _ _ e in
      let more = demand_good _ _ _ u.rest in
      let same = good_same more.1 in
      let b = below_good 2 s at n _ u.first in
      (rw (← same) b.0, (rw (← same) b.1, rw (← same) (leb-true _ _ more.0)))

  pub good_source : {v : ℕ} → field 2 s at ≡ Ok v → v < n → prev ≤ v → source_from s at n prev offset ≡ Ok v
  unfolding source_from
  good_source {v} e less more = simp (good_below 2 s at n (misnamed offset) e less, le-leb prev v more, good_then, good_and, met)

-- what the test of a source by its number says where it passes; and it passes one that is in order
module _ (v n prev : ℕ) where
  pub follows_both : (ltb v n && leb prev v) ≡ true → (v < n) × (prev ≤ v)
  follows_both e = (ltb-true v n (and_left (ltb v n) (leb prev v) e), leb-true prev v (and_right (ltb v n) (leb prev v) e))

  pub both_follow : v < n → prev ≤ v → (ltb v n && leb prev v) ≡ true
  both_follow less more = rw (lt-ltb v n less, le-leb prev v more) refl

pub part_source : (s : List ℕ) (at w n prev offset : ℕ) → at + w ≤ length s → 2 ≤ w → source_from (take w (drop at s)) 0 n prev offset ≡ source_from s at n prev offset
unfolding source_from
part_source s at w n prev offset inside h =
    rw (part_below 2 s at w 0 n (misnamed offset) inside h, add-zero) refl

-- the parts that the code hands on go from a position to an end
module _ (s : List ℕ) (at end : ℕ) (inside : end ≤ length s) where
  pub cut_below : (k x limit : ℕ) (fault : Fault) → at + x + k ≤ end → below k (take (end - at) (drop at s)) x limit fault ≡ below k s (at + x) limit fault
  cut_below k x limit fault h = part_below k s at (end - at) x limit fault (omega arith) (omega arith)

  pub cut_source : (n prev offset : ℕ) → at + 2 ≤ end → source_from (take (end - at) (drop at s)) 0 n prev offset ≡ source_from s at n prev offset
  cut_source n prev offset h = part_source s at (end - at) n prev offset (omega arith) (omega arith)
