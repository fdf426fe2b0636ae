-- Readers that read exactly what is written: records one after another, and the start that all messages share. Assumes nothing.
use Rattle.std.proofs.Common.{◌≡◌, ℕ, zero, suc, ◌+◌, ◌*◌, ◌^◌, ◌<◌, ◌≤◌, Bool, true, List, [], ◌∷◌, ◌++◌, map, length, drop, sym, refl, ap, ◌∙◌, subst, add-zero, arith, length-append, length-drop, eq-eqb, eqb-true, le-leb, leb-true}
use mathlib.Core.List.Memᴰ
use Rattle.lists.specs.Lists.{◌∈◌}
use Rattle.lists.specs.Order.{RisingFrom}
use Rattle.refusal.specs.declared.Fault.{Fault}
use Rattle.wire.specs.Bytes.{bytes, Bytes}
use Rattle.wire.specs.Read.{Read, Ok, ◌>>=◌, ◌>>◌, unless, field}
use Rattle.wire.specs.Reader.{Reader, read_all, past}
use Rattle.wire.specs.Start.{read_start, only, version_at, kind_at, start_width}
use Rattle.wire.specs.declared.Head.{Head}
use Rattle.wire.specs.Write.{write_all, write_start, message}
use Rattle.wire.proofs.Bytes.{length_bytes}
use Rattle.wire.proofs.Reading.{bind_good, demand_good, good_same, good_then, good_and, met}
use Rattle.wire.proofs.Readers.{all_length}
use Rattle.wire.proofs.Stands.{Stands, stands_none, stands_first, stands_second, stands_both, stands_inside, stands_self, stands_parts, field_stands, stands_field}

-- ---- how a good reading is made, part by part

pub good_bind : {A B : Type 0} {x : Read A} (f : A → Read B) {a : A} {b : B} → x ≡ Ok a → f a ≡ Ok b → x >>= f ≡ Ok b
good_bind f {a} p q = rw (p, good_then a f, q)

pub good_after : {A B : Type 0} {x : Read A} {a : A} {r : Read B} {b : B} → x ≡ Ok a → r ≡ Ok b → x >> r ≡ Ok b
good_after p q = rw (p, good_and, q)

pub good_demand : {B : Type 0} {t : Bool} (e : Fault) {r : Read B} {b : B} → t ≡ true → r ≡ Ok b → unless t e >> r ≡ Ok b
good_demand e p q = good_after (rw p (met e)) q

-- ---- records one after another

-- as many as there are
pub all_there : {S A : Type 0} (R : Reader S A) (k : ℕ) (st : S) (xs : List A) → read_all R k st ≡ Ok xs → read_all R (length xs) st ≡ Ok xs
all_there R k st xs e = rw (all_length R k st xs e) e

-- the length of records that are equally long
pub length_write_all : {A : Type 0} (write : A → List ℕ) (k : ℕ) → ((a : A) → length (write a) ≡ k) → (xs : List A) → length (write_all write xs) ≡ length xs * k
unfolding write_all
length_write_all write k each [] = omega arith
length_write_all write k each (a ∷ xs) =
    simp length-append (omega (arith, each a, length_write_all write k each xs))

-- what the states demand of the records
pub data FitsAll {S A : Type 0} (R : Reader S A) (Fits : S → A → Type 0) : S → List A → Type 0 where
  none : {st : S} → FitsAll R Fits st []
  more : {st : S} {a : A} {xs : List A} → Fits st a → FitsAll R Fits (R.next st a) xs → FitsAll R Fits st (a ∷ xs)

-- a reader of records reads exactly what is written: `Fits st a` says what the state demands of the record
pub record Exact {S A : Type 0} (s : List ℕ) (R : Reader S A) (write : A → List ℕ) (Fits : S → A → Type 0) : Type 0 where
  pub reads : Bytes s → (st : S) (a : A) → R.read st ≡ Ok a → Stands s (R.position st) (write a) × Fits st a
  pub written : (st : S) (a : A) → Stands s (R.position st) (write a) → Fits st a → R.read st ≡ Ok a
  pub moves : (st : S) (a : A) → R.position (R.next st a) ≡ R.position st + length (write a)

module _ {S A : Type 0} {s : List ℕ} {R : Reader S A} {write : A → List ℕ} {Fits : S → A → Type 0} (E : Exact s R write Fits) where
  -- where the records end
  pub all_moves : (st : S) (xs : List A) → R.position (past R st xs) ≡ R.position st + length (write_all write xs)
  unfolding past write_all
  all_moves st [] = sym (add-zero (R.position st))
  all_moves st (a ∷ xs) = simp length-append (omega (arith, all_moves (R.next st a) xs, E.moves st a))

  pub all_reads : Bytes s → (k : ℕ) (st : S) (xs : List A) → read_all R k st ≡ Ok xs → Stands s (R.position st) (write_all write xs) × FitsAll R Fits st xs
  unfolding read_all write_all
  all_reads b zero st xs e =
      subst (λ (l : List A). Stands s (R.position st) (write_all write l) × FitsAll R Fits st l) (good_same e) (stands_none s _, none)
  all_reads b (suc k) st xs e =
      let a = bind_good _ _ e in
      let r = bind_good _ _ a.rest in
      let here = E.reads b st a.value a.first in
      let others = all_reads b k (R.next st a.value) r.value r.first in
      subst (λ (l : List A). Stands s (R.position st) (write_all write l) × FitsAll R Fits st l) (good_same r.rest)
      (stands_both (sym (E.moves st a.value)) here.0 others.0, more here.1 others.1)

  pub all_written : (st : S) (xs : List A) → Stands s (R.position st) (write_all write xs) → FitsAll R Fits st xs → read_all R (length xs) st ≡ Ok xs
  unfolding read_all write_all
  all_written st [] h f = refl
  all_written st (a ∷ xs) h (more f fs) =
      let here = E.written st a (stands_first (write a) _ h) f in
      let others = all_written (R.next st a) xs (stands_second (write a) _ (sym (E.moves st a)) h) fs in
      good_bind _ here (good_bind _ others refl)

-- ---- what the states demand, part by part

module _ {S A : Type 0} (R : Reader S A) where
  pub fits_map : {F G : S → A → Type 0} → ((st : S) (a : A) → F st a → G st a) → {st : S} {xs : List A} → FitsAll R F st xs → FitsAll R G st xs
  fits_map f none = none
  fits_map f (more {st} {a} p ps) = more (f st a p) (fits_map f ps)

  pub fits_both : {F G : S → A → Type 0} {st : S} {xs : List A} → FitsAll R F st xs → FitsAll R G st xs → FitsAll R (λ st a. F st a × G st a) st xs
  fits_both none none = none
  fits_both (more p ps) (more q qs) = more (p, q) (fits_both ps qs)

  -- what no state changes is demanded of each record
  pub fits_each : {P : A → Type 0} {st : S} {xs : List A} → FitsAll R (λ st a. P a) st xs → {a : A} → a ∈ xs → P a
  fits_each none m = absurd (Memᴰ.not-nil m)
  fits_each {P} (more p ps) (Memᴰ.head e) = subst P (sym e) p
  fits_each (more p ps) (Memᴰ.tail m) = fits_each ps m

  pub each_fits : {P : A → Type 0} (st : S) (xs : List A) → ((a : A) → a ∈ xs → P a) → FitsAll R (λ st a. P a) st xs
  each_fits st [] each = none
  each_fits st (a ∷ xs) each = more (each a (Memᴰ.head refl)) (each_fits (R.next st a) xs (λ b m. each b (Memᴰ.tail m)))

  -- a state that keeps the key before demands keys that never fall
  module _ (prev : S → ℕ) (key : A → ℕ) (kept : (st : S) (a : A) → prev (R.next st a) ≡ key a) where
    pub fits_rising : {st : S} {xs : List A} → FitsAll R (λ st a. prev st ≤ key a) st xs → RisingFrom (prev st) (map key xs)
    unfolding RisingFrom
    fits_rising none = tt
    fits_rising (more {st} {a} {xs} p ps) = (p, subst (λ (k : ℕ). RisingFrom k (map key xs)) (kept st a) (fits_rising ps))

    pub rising_fits : (st : S) (xs : List A) → RisingFrom (prev st) (map key xs) → FitsAll R (λ st a. prev st ≤ key a) st xs
    unfolding RisingFrom
    rising_fits st [] r = none
    rising_fits st (a ∷ xs) r = more r.0 (rising_fits (R.next st a) xs (subst (λ (k : ℕ). RisingFrom k (map key xs)) (sym (kept st a)) r.1))

-- ---- the start that all messages share

-- a byte that may be one number only is that number, and one that is is read
only_good : (s : List ℕ) (at allowed : ℕ) {n : ℕ} → only s at allowed ≡ Ok n → (field 1 s at ≡ Ok n) × (n ≡ allowed)
unfolding only
only_good s at allowed e =
    let v = bind_good _ _ e in
    let is = demand_good _ _ _ v.rest in
    (rw (← good_same is.1) v.first, rw (← good_same is.1) (eqb-true _ _ is.0))

good_only : (s : List ℕ) (at : ℕ) {n : ℕ} → field 1 s at ≡ Ok n → only s at n ≡ Ok n
unfolding only
good_only s at {n} e = good_bind _ e (good_demand _ (eq-eqb n n refl) refl)

pub message_length : (head : Head) (rest : List ℕ) → length (message head rest) ≡ start_width + length rest
unfolding message
message_length head rest = simp (length-append, length_bytes) (omega arith)

start_length : (head : Head) (long : ℕ) → length (write_start head long) ≡ start_width
start_length head long = simp (length-append, length_bytes)

-- behind the start stands the rest
pub message_rest : (head : Head) (rest : List ℕ) → Stands (message head rest) start_width rest
unfolding message
message_rest head rest =
    let start = write_start head (start_width + length rest) in
    stands_second start rest (simp (length-append, length_bytes)) (stands_self (start ++ rest))

-- what a good start says of a message
pub record Started (s : List ℕ) (head : Head) : Type 0 where
  pub whole : s ≡ message head (drop start_width s)
  pub header_fits : head.length ≤ length s
  pub start_fits : start_width ≤ length s
  pub length_fits : length s < 2 ^ 32

pub start_reads : {s : List ℕ} (head : Head) → Bytes s → read_start s head ≡ Ok tt → Started s head
unfolding read_start message
start_reads {s} head b e =
    let v = head.version in
    let k = head.kind in
    let long = demand_good _ _ _ e in
    let total = bind_good _ _ long.1 in
    let is-total = demand_good _ _ _ total.rest in
    let version = bind_good _ _ is-total.1 in
    let is-version = only_good s version_at v version.first in
    let kind = bind_good _ _ version.rest in
    let is-kind = only_good s kind_at k kind.first in
    let total_there = rw (eqb-true total.value (length s) is-total.0) at (field_stands 4 b total.first) in
    let version_there = rw is-version.1 at (field_stands 1 b is-version.0) in
    let kind_there = rw is-kind.1 at (field_stands 1 b is-kind.0) in
    let stands : Stands s 0 (write_start head (length s)) =
    stands_both (simp (length-append, length_bytes)) (stands_both (simp length_bytes) total_there.0 version_there.0) kind_there.0 in
    let inside : start_width ≤ length s = rw start_length at (stands_inside stands (rw start_length (omega arith))) in
    let parts : s ≡ write_start head (length s) ++ drop start_width s = rw start_length at (stands_parts (omega arith) stands) in
    let rest : start_width + length (drop start_width s) ≡ length s = rw length-drop (omega arith) in
    record {
      whole = parts ∙ sym (ap (λ (n : ℕ). write_start head n ++ drop start_width s) rest);
      header_fits = leb-true _ _ long.0;
      start_fits = inside;
      length_fits = total_there.1;
    }

pub start_written : (rest : List ℕ) (head : Head) → head.version < 256 → head.kind < 256 → head.length ≤ start_width + length rest
    → start_width + length rest < 2 ^ 32 → read_start (message head rest) head ≡ Ok tt
unfolding read_start message
start_written rest head v-byte k-byte header_fits length_fits =
    let v = head.version in
    let k = head.kind in
    let n : ℕ = start_width + length rest in
    let s : List ℕ = message head rest in
    let long : length s ≡ n = message_length head rest in
    let stands : Stands s 0 (write_start head n) = stands_first (write_start head n) rest (stands_self _) in
    let front = stands_first (bytes 4 n ++ bytes 1 v) (bytes 1 k) stands in
    let total_there : field 4 s 0 ≡ Ok n = stands_field 4 (omega arith) (stands_first (bytes 4 n) (bytes 1 v) front) length_fits in
    let version_there : field 1 s version_at ≡ Ok v = stands_field 1 (omega arith) (stands_second (bytes 4 n) (bytes 1 v) (simp length_bytes) front) v-byte in
    let kind_there : field 1 s kind_at ≡ Ok k =
    stands_field 1 (omega arith) (stands_second (bytes 4 n ++ bytes 1 v) (bytes 1 k) (simp (length-append, length_bytes)) stands) k-byte in
    good_demand _ (le-leb head.length (length s) (omega arith))
    (good_bind _ total_there
    (good_demand _ (eq-eqb _ _ (sym long))
    (good_bind _ (good_only s version_at version_there) (good_bind _ (good_only s kind_at kind_there) refl))))
