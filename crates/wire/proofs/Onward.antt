-- Readings go onward: each field stands behind the one before it, so that nothing before a fault's offset is to blame, and the field
-- there can be mended. Proved of a field, and kept by whatever reads one thing after another. Assumes nothing.
use Rattle.std.proofs.Common.{◌≡◌, ℕ, zero, suc, ◌+◌, ◌*◌, ◌^◌, ◌<◌, ◌≤◌, Bool, true, eqb, leb, ◌⊎◌, List, [], ◌∷◌, ◌++◌, length, take, drop, sym, refl, ap, ◌∙◌, subst, ap₂, inl, inr, ⊎_elim, append_assoc, eq-or-lt_of_le, arith, length-append, length-drop, length-take-le, get_or-take, take-take, take_at}
use Rattle.refusal.specs.declared.Fault.{Fault}
use Rattle.refusal.specs.declared.Refusal.{Refusal}
use Rattle.refusal.specs.Number.{nowhere}
use Rattle.wire.specs.Bytes.{number, bytes, put}
use Rattle.wire.specs.Field.{width_of}
use Rattle.wire.specs.Read.{Read, Ok, Err, ◌>>=◌, ◌>>◌, unless, demand, field, below, misnamed, source_from}
use Rattle.wire.specs.Reader.{Reader, read_all, past}
use Rattle.wire.specs.Start.{read_start, version_at, kind_at, start_width}
use Rattle.wire.specs.Counts.{read_count}
use Rattle.wire.specs.Located.{FieldAt, Located, From, SameBefore, Mendable}
use Rattle.wire.specs.declared.Width.{Width}
use Rattle.wire.specs.declared.Width.TheVariants.{One, Two, Four}
use Rattle.wire.specs.declared.Head.{Head}
use Rattle.wire.specs.declared.Count.{Count}
use Rattle.wire.proofs.Bytes.{length_bytes, number_bytes}
use Rattle.wire.proofs.Fields.{field_value, value_is, width_some}
use Rattle.wire.proofs.Reading.{good_then, never, good_same, bind_good}
use Rattle.wire.proofs.Exact.{good_bind}
use Rattle.wire.proofs.Judged.{bind_bad, and_bind, judged_parts, unless_bad, field_bad, Judged, field_judged, test_judged, below_judged, source_judged, only_judged, count_judged, Takes, field_takes, test_takes, below_takes, source_takes, only_takes, count_takes}

-- ---- messages with the same bytes before an offset

pub same_sooner : {o p : ℕ} {s s' : List ℕ} → p ≤ o → SameBefore o s s' → SameBefore p s s'
same_sooner {o} {p} {s} {s'} le h = record {
  as_long = h.as_long;
  bytes_are = sym (take-take p o s' le) ∙ ap (take p) h.bytes_are ∙ take-take p o s le;
}

number_before : (k : ℕ) (s : List ℕ) (at o : ℕ) → at + k ≤ o → number k (take o s) at ≡ number k s at
unfolding number
number_before zero s at o h = refl
number_before (suc k) s at o h =
    ap₂ (λ (a b : ℕ). a * 256 + b) (number_before k s at o (omega arith)) (get_or-take o s (at + k) 0 (omega arith))

pub same_number : (k at : ℕ) {o : ℕ} {s s' : List ℕ} → at + k ≤ o → SameBefore o s s' → number k s' at ≡ number k s at
same_number k at {o} {s} {s'} le h =
    sym (number_before k s' at o le) ∙ ap (λ (x : List ℕ). number k x at) h.bytes_are ∙ number_before k s at o le

-- a number that is put there is one
module _ (s : List ℕ) (o k v : ℕ) (inside : o + k ≤ length s) where
  front : length (take o s) ≡ o
  front = length-take-le o s (omega arith)

  pub put_same : SameBefore o s (put s o k v)
  unfolding put
  put_same = record {
    as_long = simp (length-append, length_bytes, length-drop) (omega (arith, front));
    bytes_are = rw append_assoc (take_at (take o s) (bytes k v ++ drop (o + k) s) o front);
  }

  pub put_number : v < 256 ^ k → number k (put s o k v) o ≡ v
  unfolding put
  put_number fits = rw front at (number_bytes k v (take o s) (drop (o + k) s) fits)

-- ---- readings that go onward

from_sooner : {p q o : ℕ} → p ≤ q → (o ≡ nowhere) ⊎ (q ≤ o) → (o ≡ nowhere) ⊎ (p ≤ o)
from_sooner le h = ⊎_elim inl (λ x. inr (omega arith)) h

-- the field at o is the one at fault: whatever one writes from o on, a fault is there or behind it; behind it, where that field is mended
pub record AtFault {A : Type 0} (Start : List ℕ → ℕ → Width → Type 0) (read : List ℕ → Read A) (end : A → ℕ) (s : List ℕ) (o : ℕ) : Type 0 where
  pub place : FieldAt (Start s) s o
  pub value : ℕ
  pub fits : value < 256 ^ width_of place.width
  pub before : (s' : List ℕ) {f : Fault} → SameBefore o s s' → read s' ≡ Err f → From o f
  pub behind : (s' : List ℕ) {a : A} → SameBefore o s s' → read s' ≡ Ok a → o < end a
  pub mended : (s' : List ℕ) {f : Fault} → SameBefore o s s' → number (width_of place.width) s' o ≡ value → read s' ≡ Err f → From (o + 1) f

-- a reading whose fields stand at p or behind it; what it gives says where it ends, and depends on the bytes before that only.
-- `On` are the messages that it is met in: in these a fault is at a field
pub record Onward {A : Type 0} (Start : List ℕ → ℕ → Width → Type 0) (On : List ℕ → Type 0) (p : ℕ) (read : List ℕ → Read A) (end : A → ℕ) : Type 0 where
  pub rises : (s : List ℕ) {a : A} → read s ≡ Ok a → p ≤ end a
  pub from : (s : List ℕ) {f : Fault} → read s ≡ Err f → From p f
  pub same : (s s' : List ℕ) {a : A} → read s ≡ Ok a → SameBefore (end a) s s' → read s' ≡ Ok a
  pub faulty : (s : List ℕ) {f : Fault} → On s → read s ≡ Err f → 0 < f.offset → AtFault Start read end s f.offset

module _ {Start : List ℕ → ℕ → Width → Type 0} {On : List ℕ → Type 0} where
  -- it can be said to begin sooner, and be met in fewer messages
  pub onward_sooner : {A : Type 0} {p q : ℕ} {read : List ℕ → Read A} {end : A → ℕ} → p ≤ q → Onward Start On q read end → Onward Start On p read end
  onward_sooner le R = record {
    rises = λ s e. let h = R.rises s e in omega arith;
    from = λ s e. from_sooner le (R.from s e);
    same = R.same;
    faulty = R.faulty;
  }

  pub onward_on : {A : Type 0} {On' : List ℕ → Type 0} {p : ℕ} {read : List ℕ → Read A} {end : A → ℕ} → ((s : List ℕ) → On' s → On s) → Onward Start On p read end → Onward Start On' p read end
  onward_on fewer R = record {
    rises = R.rises;
    from = R.from;
    same = R.same;
    faulty = λ s on e some. R.faulty s (fewer s on) e some;
  }

  -- nothing is read
  pub onward_good : {A : Type 0} {p : ℕ} (end : A → ℕ) (a : A) → p ≤ end a → Onward Start On p (λ s. Ok a) end
  onward_good {p = p} end a le = record {
    rises = λ s e. subst (λ x. p ≤ end x) (good_same e) le;
    from = λ s e. absurd (never (sym e));
    same = λ s s' e h. e;
    faulty = λ s on e some. absurd (never (sym e));
  }

  -- a demand on the length
  pub onward_demand : (p : ℕ) (test : ℕ → Bool) (e : Refusal) → Onward Start On p (λ s. demand (test (length s)) e nowhere) (λ u. p)
  onward_demand p test e = record {
    rises = λ s h. omega arith;
    from = λ s h. inl (ap (λ (g : Fault). g.offset) (sym (unless_bad _ _ h)));
    same = λ s s' h alike. rw alike.as_long h;
    faulty = λ s on h some. absurd (let z : 0 ≡ _ = ap (λ (g : Fault). g.offset) (unless_bad _ _ h) in omega arith);
  }

  -- a field, which starts there where it is at fault
  onward_judged : {p at : ℕ} {w : Width} {read : List ℕ → Read ℕ} → p ≤ at → Judged at w read → Takes at w read
      → ((s : List ℕ) (f : Fault) → On s → read s ≡ Err f → 0 < f.offset → Start s at w) → Onward Start On p read (λ n. at + width_of w)
  onward_judged {p} {at} {w} {read} le F T starts =
      let k : ℕ = width_of w in
      let some : 0 < width_of w = width_some w in
      let here : (s : List ℕ) (f : Fault) → read s ≡ Err f → From at f = λ s f e. ⊎_elim inl (λ q. inr (omega (arith, q.0))) (F.blames s e) in
      record {
        rises = λ s e. omega arith;
        from = λ s e. from_sooner le (here s _ e);
        same = λ s s' e alike. F.depends s s' alike.as_long (same_number k at (omega arith) alike) ∙ e;
        faulty = λ s {f} on e placed.
            let blamed : (f.offset ≡ at) × (at + k ≤ length s) = ⊎_elim (λ z. absurd (omega arith)) (λ q. q) (F.blames s e) in
            subst (AtFault Start read (λ n. at + k) s) (sym blamed.0) (record {
              place = record { width = w; starts = starts s f on e placed; inside = blamed.1 };
              value = T.value;
              fits = T.fits;
              before = λ s' alike e'. here s' _ e';
              behind = λ s' alike e'. omega arith;
              mended = λ s' alike is e'.
                  let fit : at + k ≤ length s' = omega (arith, alike.as_long, blamed.1) in
                  let value : field k s' at ≡ Ok T.value = rw (field_value k s' at fit, is) refl in
                  absurd (never (sym e' ∙ T.taken s' value));
            });
      }

  onward_field : {p at : ℕ} {w : Width} {read : List ℕ → Read ℕ} → p ≤ at → Judged at w read → Takes at w read → ((s : List ℕ) → On s → Start s at w) → Onward Start On p read (λ n. at + width_of w)
  onward_field le F T starts = onward_judged le F T (λ s f on e placed. starts s on)

  -- one whose number is free is never at fault
  pub onward_free : {p : ℕ} (w : Width) (at : ℕ) → p ≤ at → Onward Start On p (λ s. field (width_of w) s at) (λ n. at + width_of w)
  onward_free w at le =
      onward_judged le (field_judged w at) (field_takes w at)
      (λ s f on e placed. absurd (let z : f.offset ≡ 0 = ap (λ (g : Fault). g.offset) (field_bad (width_of w) s at e) in omega arith))

  -- one below a limit, the name of one of n, a source, a count
  pub onward_below : {p : ℕ} (w : Width) (at limit : ℕ) (fault : Fault) → p ≤ at → fault.offset ≡ at → 0 < limit → ((s : List ℕ) → On s → Start s at w) → Onward Start On p (λ s. below (width_of w) s at limit fault) (λ n. at + width_of w)
  onward_below w at limit fault le is some starts = onward_field le (below_judged w at limit fault is) (below_takes w at limit fault some) starts

  pub onward_named : {p : ℕ} (at n : ℕ) → p ≤ at → 0 < n → ((s : List ℕ) → On s → Start s at Two) → Onward Start On p (λ s. below 2 s at n (misnamed at)) (λ v. at + 2)
  onward_named at n le some starts = onward_below Two at n (misnamed at) le refl some starts

  pub onward_source : {p : ℕ} (at n prev : ℕ) → p ≤ at → prev < n → n ≤ 65536 → ((s : List ℕ) → On s → Start s at Two) → Onward Start On p (λ s. source_from s at n prev at) (λ v. at + 2)
  onward_source at n prev le less few starts = onward_field le (source_judged at n prev) (source_takes at n prev less few) starts

  pub onward_count : {p : ℕ} (count : Count) → p ≤ count.at → count.least ≤ count.most → count.least < 256 ^ width_of count.width → ((s : List ℕ) → On s → Start s count.at count.width)
      → Onward Start On p (λ s. read_count s count) (λ n. count.at + width_of count.width)
  onward_count count le most fits starts = onward_field le (count_judged count) (count_takes count most fits) starts

-- some message gives this
pub record Reached {A : Type 0} (read : List ℕ → Read A) (a : A) : Type 0 where
  pub message : List ℕ
  pub given : read message ≡ Ok a

-- one reading after another: the second is met in the messages that the first is good in
module _ {Start : List ℕ → ℕ → Width → Type 0} {On : List ℕ → Type 0} {A B : Type 0} {p : ℕ} {read : List ℕ → Read A} {end : A → ℕ} (R : Onward Start On p read end)
    (next : A → List ℕ → Read B) {last : B → ℕ} (G : (a : A) → Reached read a → Onward Start (λ s. On s × (read s ≡ Ok a)) (end a) (next a) last) where
  both : List ℕ → Read B
  both s = read s >>= λ a. next a s

  -- the second reading follows, in the message that the first was good in
  goes : (s : List ℕ) {a : A} → read s ≡ Ok a → Onward Start (λ s. On s × (read s ≡ Ok a)) (end a) (next a) last
  goes s {a} e = G a (record { message = s; given = e })

  -- a fault of the first
  first_faulty : (s : List ℕ) {o : ℕ} → AtFault Start read end s o → AtFault Start both last s o
  unfolding both
  first_faulty s {o} c = record {
    place = c.place;
    value = c.value;
    fits = c.fits;
    before = λ s' {f} alike e.
        ⊎_elim (λ q. c.before s' alike q) (λ q. let past = c.behind s' alike q.first in from_sooner (omega arith) ((goes s' q.first).from s' q.rest)) (bind_bad (read s') _ e);
    behind = λ s' alike e.
        let q = bind_good (read s') _ e in
        let past = c.behind s' alike q.first in
        let more = (goes s' q.first).rises s' q.rest in
        omega arith;
    mended = λ s' {f} alike is e.
        ⊎_elim (λ q. c.mended s' alike is q) (λ q. let past = c.behind s' alike q.first in from_sooner (omega arith) ((goes s' q.first).from s' q.rest)) (bind_bad (read s') _ e);
  }

  -- a fault of the second: the first is as it was
  later_faulty : (s : List ℕ) {a : A} {o : ℕ} → read s ≡ Ok a → end a ≤ o → AtFault Start (next a) last s o → AtFault Start both last s o
  unfolding both
  later_faulty s {a} {o} e le c =
      let goes_on : (s' : List ℕ) → SameBefore o s s' → both s' ≡ next a s' = λ s' alike. rw (R.same s s' e (same_sooner le alike), good_then) in
      record {
        place = c.place;
        value = c.value;
        fits = c.fits;
        before = λ s' alike h. c.before s' alike (sym (goes_on s' alike) ∙ h);
        behind = λ s' alike h. c.behind s' alike (sym (goes_on s' alike) ∙ h);
        mended = λ s' alike is h. c.mended s' alike is (sym (goes_on s' alike) ∙ h);
      }

  pub onward_bind : Onward Start On p (λ s. read s >>= λ a. next a s) last
  unfolding both
  onward_bind = record {
    rises = λ s e.
        let q = bind_good (read s) _ e in
        let first = R.rises s q.first in
        let more = (goes s q.first).rises s q.rest in
        omega arith;
    from = λ s {f} e.
        ⊎_elim (λ q. R.from s q) (λ q. from_sooner (R.rises s q.first) ((goes s q.first).from s q.rest)) (bind_bad (read s) _ e);
    same = λ s s' e alike.
        let q = bind_good (read s) _ e in
        let more = (goes s q.first).rises s q.rest in
        good_bind _ (R.same s s' q.first (same_sooner more alike)) ((goes s q.first).same s s' q.rest alike);
    faulty = λ s {f} on e some.
        ⊎_elim (λ q. first_faulty s (R.faulty s on q some))
        (λ q.
        let H = goes s q.first in
        let le : end q.value ≤ f.offset = ⊎_elim (λ z. absurd (omega arith)) (λ z. z) (H.from s q.rest) in
        later_faulty s q.first le (H.faulty s (on, q.first) q.rest some))
        (bind_bad (read s) _ e);
  }

module _ {Start : List ℕ → ℕ → Width → Type 0} {On : List ℕ → Type 0} where
  -- where it doesn't matter in which messages
  pub onward_then : {A B : Type 0} {p : ℕ} {read : List ℕ → Read A} {end : A → ℕ} → Onward Start On p read end → (next : A → List ℕ → Read B) {last : B → ℕ}
      → ((a : A) → Reached read a → Onward Start On (end a) (next a) last) → Onward Start On p (λ s. read s >>= λ a. next a s) last
  onward_then R next G = onward_bind R next (λ a r. onward_on (λ s on. on.0) (G a r))

  -- the same reading, said otherwise
  pub onward_is : {A : Type 0} {p : ℕ} {read read' : List ℕ → Read A} {end : A → ℕ} → ((s : List ℕ) → read s ≡ read' s) → Onward Start On p read end → Onward Start On p read' end
  onward_is {p = p} {end = end} is R = subst (λ r. Onward Start On p r end) (λ i s. is s i) R

  -- the second reading doesn't need what the first gave
  pub onward_and : {B : Type 0} {p q : ℕ} {read : List ℕ → Read Unit} {next : List ℕ → Read B} {last : B → ℕ} → Onward Start On p read (λ u. q) → Onward Start On q next last → Onward Start On p (λ s. read s >> next s) last
  onward_and {read = read} {next = next} R G = onward_is (λ s. and_bind (read s) (next s)) (onward_then R (λ u. next) (λ u h. G))

  -- a field with a test on its number, and what follows
  pub onward_test : {B : Type 0} {p : ℕ} (w : Width) (at : ℕ) (test : ℕ → Bool) (e : Fault) (next : ℕ → List ℕ → Read B) {last : B → ℕ}
      → p ≤ at → e.offset ≡ at → test 0 ≡ true → ((s : List ℕ) → On s → Start s at w)
      → ((n : ℕ) → Onward Start (λ s. On s × (number (width_of w) s at ≡ n)) (at + width_of w) (next n) last)
      → Onward Start On p (λ s. field (width_of w) s at >>= λ n. unless (test n) e >> next n s) last
  onward_test w at test e next le is passes starts G =
      let F = test_judged w at test e is in
      onward_is (λ s. judged_parts (field (width_of w) s at) test e (λ n. next n s))
      (onward_bind (onward_field le F (test_takes w at test e passes) starts) next (λ n h. onward_on (λ s on. (on.0, value_is (width_of w) s at (F.reads s on.1))) (G n)))

  -- the start of a message
  pub onward_start : (head : Head) → head.version < 256 → head.kind < 256 → ((s : List ℕ) → On s → Start s version_at One) → ((s : List ℕ) → On s → Start s kind_at One)
      → Onward Start On 0 (λ s. read_start s head) (λ u. start_width)
  unfolding read_start
  onward_start head version kind version-starts kind-starts =
      onward_and (onward_demand 0 (λ n. leb head.length n) _)
      (onward_then (onward_free Four 0 (omega arith)) _ (λ total h₀.
      onward_and (onward_demand 4 (λ n. eqb total n) _)
      (onward_then (onward_field (omega arith) (only_judged version_at head.version) (only_takes version_at head.version version) version-starts) _ (λ v h₁.
      onward_then (onward_field (omega arith) (only_judged kind_at head.kind) (only_takes kind_at head.kind kind) kind-starts) _ (λ k h₂.
      onward_good _ (tt {0}) (omega arith))))))

-- k records one after another: Inv says what their states keep, and `At i st s` that in the message s the record i is read in the state st
module _ {S A : Type 0} (Start : List ℕ → ℕ → Width → Type 0) (position : S → ℕ) (read : List ℕ → S → Read A) (next : S → A → S) (Inv : S → Type 0) (At : ℕ → S → List ℕ → Type 0) (k : ℕ) where
  abbrev pub reader : List ℕ → Reader S A
  reader s = record { position = position; read = read s; next = next }

  pub onward_all : ((i : ℕ) (st : S) → i < k → Inv st → Onward Start (At i st) (position st) (λ s. read s st) (λ a. position (next st a)))
      → ((st : S) (a : A) → Inv st → Reached (λ s. read s st) a → Inv (next st a))
      → ((i : ℕ) (st : S) (a : A) (s : List ℕ) → At i st s → read s st ≡ Ok a → At (suc i) (next st a) s)
      → (i m : ℕ) (st : S) → i + m ≤ k → Inv st → Onward Start (At i st) (position st) (λ s. read_all (reader s) m st) (λ xs. position (past (reader []) st xs))
  unfolding read_all past
  onward_all each kept moves i zero st fit v = onward_good _ [] (omega arith)
  onward_all each kept moves i (suc m) st fit v =
      onward_bind (each i st (omega arith) v) _ (λ a reached.
      onward_on (λ s on. moves i st a s on.0 on.1)
      (onward_then (onward_all each kept moves (suc i) m (next st a) (omega arith) (kept st a v reached)) _ (λ xs h. onward_good _ (a ∷ xs) (omega arith))))

-- ---- the laws

module _ {A : Type 0} {Start : List ℕ → ℕ → Width → Type 0} {read : List ℕ → Read A} {end : A → ℕ} (R : Onward Start (λ s. Unit) 0 read end) (s : List ℕ) {f : Fault} (e : read s ≡ Err f) where
  by_place : {C : Type 0} → (f.offset ≡ nowhere → C) → (AtFault Start read end s f.offset → C) → C
  by_place none placed = ⊎_elim (λ z. none (sym z)) (λ some. placed (R.faulty s tt e some)) (eq-or-lt_of_le {n = 0} {m = f.offset} (omega arith))

  -- a field starts there
  pub placed : Located (Start s) s f
  placed = by_place inl (λ c. inr c.place)

  -- nothing before the offset is to blame
  pub none_before : (s' : List ℕ) {f' : Fault} → SameBefore f.offset s s' → read s' ≡ Err f' → From f.offset f'
  none_before s' {f'} alike e' = by_place (λ z. inr (omega arith)) (λ c. c.before s' alike e')

  -- the field there can be mended
  pub mendable : 0 < f.offset → Mendable (Start s) read s f.offset
  mendable some =
      let c = R.faulty s tt e some in
      let k : ℕ = width_of c.place.width in
      record {
        place = c.place;
        value = c.value;
        fits = c.fits;
        reads_past = λ h. c.mended _ (put_same s f.offset k c.value c.place.inside) (put_number s f.offset k c.value c.place.inside c.fits) h;
      }
