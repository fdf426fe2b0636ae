-- A field as it is read and judged: what it depends on, which faults it finds, and a number that it takes. Assumes nothing.
use Rattle.std.proofs.Common.{◌≡◌, ℕ, ◌+◌, ◌^◌, ◌<◌, ◌≤◌, Bool, true, false, eqb, ltb, leb, ◌⊎◌, List, length, sym, refl, ap, ◌∙◌, inl, inr, ⊎_elim, arith, lt-ltb, eq-eqb}
use native.Mathlib.Nat.{one-le-pow}
use Rattle.refusal.specs.declared.Fault.{Fault}
use Rattle.refusal.specs.Number.{nowhere}
use Rattle.wire.specs.Bytes.{number}
use Rattle.wire.specs.Field.{short, width_of}
use Rattle.wire.specs.Read.{Read, Ok, Err, ◌>>=◌, ◌>>◌, unless, field, below, misnamed, source_from}
use Rattle.wire.specs.Start.{only}
use Rattle.wire.specs.Counts.{read_count}
use Rattle.wire.specs.declared.Width.{Width}
use Rattle.wire.specs.declared.Width.TheVariants.{One, Two}
use Rattle.wire.specs.declared.Count.{Count}
use Rattle.wire.proofs.Fields.{value_inside, refused_short}
use Rattle.wire.proofs.Reading.{never, good_same, bad_same, bind_good, demand_good, good_source}
use Rattle.wire.proofs.Counts.{good_count}
use Rattle.wire.proofs.Exact.{good_bind, good_demand}

-- ---- what a bad reading says

-- a reading that went on, and found its fault later
pub record Stopped {A B : Type 0} (x : Read A) (f : A → Read B) (e : Fault) : Type 0 where
  pub value : A
  pub first : x ≡ Ok value
  pub rest : f value ≡ Err e

pub bind_bad : {A B : Type 0} (x : Read A) (f : A → Read B) {e : Fault} → x >>= f ≡ Err e → (x ≡ Err e) ⊎ Stopped x f e
unfolding ◌>>=◌
bind_bad (Ok a) f e = inr (record { value = a; first = refl; rest = e })
bind_bad (Err r) f e = inl (ap Err (bad_same e))

-- what doesn't need the first reading's value
pub and_bind : {A B : Type 0} (x : Read A) (r : Read B) → x >>= (λ a. r) ≡ x >> r
unfolding ◌>>=◌ ◌>>◌
and_bind (Ok a) r = refl
and_bind (Err e) r = refl

-- a field that is judged, and what follows
pub judged_parts : {B : Type 0} (x : Read ℕ) (test : ℕ → Bool) (e : Fault) (g : ℕ → Read B) → (x >>= λ n. unless (test n) e >> Ok n) >>= g ≡ x >>= λ n. unless (test n) e >> g n
unfolding ◌>>=◌ ◌>>◌ unless
judged_parts (Ok n) test e g = go (test n)
  where
    go : (t : Bool) → (unless t e >> Ok n) >>= g ≡ unless t e >> g n
    go true = refl
    go false = refl
judged_parts (Err r) test e g = refl

pub unless_bad : (t : Bool) (e : Fault) {f : Fault} → unless t e ≡ Err f → e ≡ f
unfolding unless
unless_bad true e h = absurd (never (sym h))
unless_bad false e h = bad_same h

pub field_bad : (k : ℕ) (s : List ℕ) (at : ℕ) {f : Fault} → field k s at ≡ Err f → f ≡ short
field_bad k s at e = refused_short k s at e

-- ---- a field

-- a judgement of a number: it keeps the number, or it blames the field that starts at `at`
pub record Judge (at : ℕ) (judge : ℕ → Read ℕ) : Type 0 where
  pub keeps : (n : ℕ) {m : ℕ} → judge n ≡ Ok m → n ≡ m
  pub blames : (n : ℕ) {f : Fault} → judge n ≡ Err f → f.offset ≡ at

pub judge_none : (at : ℕ) → Judge at (λ n. Ok n)
judge_none at = record {
  keeps = λ n e. good_same e;
  blames = λ n e. absurd (never (sym e));
}

pub judge_also : {at : ℕ} (test : ℕ → Bool) (e : Fault) {judge : ℕ → Read ℕ} → e.offset ≡ at → Judge at judge → Judge at (λ n. unless (test n) e >> judge n)
judge_also test e {judge} is K = record {
  keeps = λ n h. K.keeps n (demand_good _ _ _ h).1;
  blames = λ n h.
      ⊎_elim (λ p. ap (λ (f : Fault). f.offset) (sym (unless_bad (test n) e p)) ∙ is) (λ p. K.blames n p.rest)
      (bind_bad (unless (test n) e) (λ a. judge n) (and_bind (unless (test n) e) (judge n) ∙ h));
}

-- a field at a position, as it is read and judged
pub record Judged (at : ℕ) (w : Width) (read : List ℕ → Read ℕ) : Type 0 where
  pub reads : (s : List ℕ) {n : ℕ} → read s ≡ Ok n → field (width_of w) s at ≡ Ok n
  pub blames : (s : List ℕ) {f : Fault} → read s ≡ Err f → (f.offset ≡ nowhere) ⊎ ((f.offset ≡ at) × (at + width_of w ≤ length s))
  pub depends : (s s' : List ℕ) → length s' ≡ length s → number (width_of w) s' at ≡ number (width_of w) s at → read s' ≡ read s

pub field_judged : (w : Width) (at : ℕ) → Judged at w (λ s. field (width_of w) s at)
unfolding field
field_judged w at = record {
  reads = λ s e. e;
  blames = λ s e. inl (ap (λ (f : Fault). f.offset) (field_bad (width_of w) s at e));
  depends = λ s s' long same. rw (long, same);
}

pub also_judged : {at : ℕ} {w : Width} {read : List ℕ → Read ℕ} {judge : ℕ → Read ℕ} → Judged at w read → Judge at judge → Judged at w (λ s. read s >>= judge)
also_judged {at} {w} {read} {judge} R K = record {
  reads = λ s e. let g = bind_good (read s) judge e in R.reads s g.first ∙ ap Ok (K.keeps g.value g.rest);
  blames = λ s e.
      ⊎_elim (λ p. R.blames s p) (λ p. inr (K.blames p.value p.rest, value_inside (width_of w) s at (R.reads s p.first)))
      (bind_bad (read s) judge e);
  depends = λ s s' long same. ap (λ (x : Read ℕ). x >>= judge) (R.depends s s' long same);
}

-- a test
pub test_judged : (w : Width) (at : ℕ) (test : ℕ → Bool) (e : Fault) → e.offset ≡ at → Judged at w (λ s. field (width_of w) s at >>= λ n. unless (test n) e >> Ok n)
test_judged w at test e is = also_judged (field_judged w at) (judge_also test e is (judge_none at))

pub below_judged : (w : Width) (at limit : ℕ) (fault : Fault) → fault.offset ≡ at → Judged at w (λ s. below (width_of w) s at limit fault)
unfolding below
below_judged w at limit fault is = test_judged w at (λ n. ltb n limit) fault is

pub source_judged : (at n prev : ℕ) → Judged at Two (λ s. source_from s at n prev at)
unfolding source_from
source_judged at n prev = also_judged (below_judged Two at n (misnamed at) refl) (judge_also (λ v. leb prev v) _ refl (judge_none at))

pub only_judged : (at allowed : ℕ) → Judged at One (λ s. only s at allowed)
unfolding only
only_judged at allowed = test_judged One at (λ v. eqb v allowed) _ refl

pub count_judged : (count : Count) → Judged count.at count.width (λ s. read_count s count)
unfolding read_count
count_judged count =
    also_judged (field_judged count.width count.at)
    (judge_also (λ n. leb count.least n) _ refl (judge_also (λ n. leb n count.most) _ refl (judge_none count.at)))

-- a number that the field takes, whatever stands in the rest of the message
pub record Takes (at : ℕ) (w : Width) (read : List ℕ → Read ℕ) : Type 0 where
  pub value : ℕ
  pub fits : value < 256 ^ width_of w
  pub taken : (s : List ℕ) → field (width_of w) s at ≡ Ok value → read s ≡ Ok value

pub field_takes : (w : Width) (at : ℕ) → Takes at w (λ s. field (width_of w) s at)
field_takes w at = record { value = 0; fits = one-le-pow (width_of w) 256 (omega arith); taken = λ s e. e }

pub test_takes : (w : Width) (at : ℕ) (test : ℕ → Bool) (e : Fault) → test 0 ≡ true → Takes at w (λ s. field (width_of w) s at >>= λ n. unless (test n) e >> Ok n)
test_takes w at test e passes = record {
  value = 0;
  fits = one-le-pow (width_of w) 256 (omega arith);
  taken = λ s h. good_bind _ h (good_demand e passes refl);
}

pub below_takes : (w : Width) (at limit : ℕ) (fault : Fault) → 0 < limit → Takes at w (λ s. below (width_of w) s at limit fault)
unfolding below
below_takes w at limit fault some = test_takes w at (λ n. ltb n limit) fault (lt-ltb 0 limit some)

pub source_takes : (at n prev : ℕ) → prev < n → n ≤ 65536 → Takes at Two (λ s. source_from s at n prev at)
source_takes at n prev less few = record {
  value = prev;
  fits = omega arith;
  taken = λ s e. good_source s at n prev at e less (omega arith);
}

pub only_takes : (at allowed : ℕ) → allowed < 256 → Takes at One (λ s. only s at allowed)
unfolding only
only_takes at allowed less = record {
  value = allowed;
  fits = less;
  taken = λ s e. good_bind _ e (good_demand _ (eq-eqb allowed allowed refl) refl);
}

pub count_takes : (count : Count) → count.least ≤ count.most → count.least < 256 ^ width_of count.width → Takes count.at count.width (λ s. read_count s count)
count_takes count le fits = record {
  value = count.least;
  fits = fits;
  taken = λ s e. good_count s count e (omega arith) le;
}
