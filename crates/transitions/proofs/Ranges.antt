-- With transitions in order, those of a state are the ones at the front, once those of the states before it are passed.
-- Assumes nothing.
use Rattle.std.proofs.Common.{◌≡◌, ℕ, zero, suc, ◌+◌, ◌-◌, ◌*◌, ◌<◌, ◌≤◌, eqb, List, [], ◌∷◌, length, get_or, take, drop, set, refl, ap, ◌∙◌, add-one, arith, get_or-set_other, get_or-set_same, eq-eqb, ne_eqb, eqb-true}
use borrow.Author.Tests.{eqb-false}
use Rattle.lists.specs.Making.{keep}
use Rattle.lists.specs.Order.{RisingFrom}
use Rattle.lists.proofs.Tests.{by_test}
use Rattle.wire.specs.Bytes.{number}
use Rattle.wire.specs.Layout.{items}
use Rattle.wire.proofs.Layouts.{items_length}
use Rattle.model.specs.Format.{transition_width, label_at, transition_at}
use Rattle.model.specs.Model.{Transition}
use Rattle.transitions.specs.Held.{transition_layout, transitions_from, RiseFrom, leading, Starts, Own}
use Rattle.wire.proofs.Stride.{items_take, items_drop, items_left}

-- the transitions of a state
abbrev pub of : ℕ → List Transition → List Transition
of a us = keep (λ u. eqb u.from a) us

rise_from : {a b : ℕ} (us : List Transition) → b ≤ a → RiseFrom a us → RiseFrom b us
unfolding RisingFrom
rise_from [] h r = tt
rise_from (u ∷ us) h r = (omega (arith, r.0), r.1)

-- once a `from` is above a, no transition leaves a
none_of : (a k : ℕ) (us : List Transition) → a < k → RiseFrom k us → of a us ≡ []
unfolding keep RisingFrom
none_of a k [] h r = refl
none_of a k (u ∷ us) h r = rw (ne_eqb u.from a (omega (arith, r.0))) (none_of a u.from us (omega (arith, r.0)) r.1)

pub leading_le : (a : ℕ) (us : List Transition) → leading a us ≤ length us
unfolding leading
leading_le a [] = omega arith
leading_le a (u ∷ us) = let h = leading_le a us in by_test (eqb u.from a) (λ e. rw e (omega arith)) (λ e. rw e (omega arith))

-- those at the front are the state's
pub leading_are : (a : ℕ) (us : List Transition) → RiseFrom a us → of a us ≡ take (leading a us) us
unfolding leading keep RisingFrom
leading_are a [] r = refl
leading_are a (u ∷ us) r =
    by_test (eqb u.from a)
    (λ e. let same = eqb-true u.from a e in
    let more : 1 + leading a us ≡ suc (leading a us) = omega arith in
    rw (e, more) (ap (λ l. u ∷ l) (leading_are a us (rise_from us (omega arith) r.1))))
    (λ e. rw e (none_of a u.from us (omega (arith, r.0, eqb-false)) r.1))

-- and behind them every `from` is above it
pub leading_past : (a : ℕ) (us : List Transition) → RiseFrom a us → RiseFrom (a + 1) (drop (leading a us) us)
unfolding leading RisingFrom
leading_past a [] r = tt
leading_past a (u ∷ us) r =
    by_test (eqb u.from a)
    (λ e. let same = eqb-true u.from a e in
    let more : 1 + leading a us ≡ suc (leading a us) = omega arith in
    rw (e, more) (leading_past a us (rise_from us (omega arith) r.1)))
    (λ e. rw e (omega (arith, r.0, eqb-false), r.1))

-- passing them loses nothing of another state
pub leading_other : (a c : ℕ) (us : List Transition) → ¬ (a ≡ c) → of c us ≡ of c (drop (leading a us) us)
unfolding leading keep
leading_other a c [] h = refl
leading_other a c (u ∷ us) h =
    by_test (eqb u.from a)
    (λ e. let same = eqb-true u.from a e in
    let more : 1 + leading a us ≡ suc (leading a us) = omega arith in
    rw (e, more, ne_eqb u.from c (omega arith)) (leading_other a c us h))
    (λ e. rw e)

-- ---- a loop over the transitions from one on

module _ (m : List ℕ) (n t a i : ℕ) (h : i < t) where
  here : transitions_from m n i (t - i) ≡ (transition_layout m).item (transition_at n i) ∷ transitions_from m n (i + 1) (t - (i + 1))
  here = items_left (transition_layout m) transition_width (λ at. refl) (label_at n) t i h

  -- one more that leaves state a, and one that doesn't
  pub leading_more : number 2 m (transition_at n i) ≡ a → leading a (transitions_from m n i (t - i)) ≡ 1 + leading a (transitions_from m n (i + 1) (t - (i + 1)))
  unfolding leading
  leading_more e = ap (leading a) here ∙ rw (eq-eqb (number 2 m (transition_at n i)) a e)

  pub leading_stop : ¬ (number 2 m (transition_at n i) ≡ a) → leading a (transitions_from m n i (t - i)) ≡ 0
  unfolding leading
  leading_stop e = ap (leading a) here ∙ rw (ne_eqb (number 2 m (transition_at n i)) a e)

pub leading_none : (m : List ℕ) (n t a i : ℕ) → t ≤ i → leading a (transitions_from m n i (t - i)) ≡ 0
unfolding leading items
leading_none m n t a i h = let none : t - i ≡ 0 = omega arith in rw none

-- ---- many transitions at a time

module _ (m : List ℕ) where
  abbrev from : ℕ → ℕ
  from at = number 2 m at

  -- no `from` of so many is below a
  low_at : (a k c at : ℕ) → k < c → RiseFrom a (items (transition_layout m) c at) → a ≤ from (at + k * transition_width)
  unfolding items RisingFrom
  low_at a k zero at h r = absurd (omega arith)
  low_at a zero (suc c) at h r = let here : at + 0 * transition_width ≡ at = omega arith in rw here r.0
  low_at a (suc k) (suc c) at h r =
      let there : at + transition_width + k * transition_width ≡ at + suc k * transition_width = omega arith in
      let later : from at ≤ from (at + transition_width + k * transition_width) = low_at (from at) k c (at + transition_width) (omega arith) r.1 in
      let low : a ≤ from (at + transition_width + k * transition_width) = omega (arith, r.0, later) in
      rw there at low

  -- where the last of so many leaves a, all do, and the others still rise
  many_lead : (a k c at : ℕ) → k < c → RiseFrom a (items (transition_layout m) c at) → from (at + k * transition_width) ≡ a
      → (leading a (items (transition_layout m) c at) ≡ k + 1 + leading a (items (transition_layout m) (c - (k + 1)) (at + (k + 1) * transition_width)))
      × RiseFrom a (items (transition_layout m) (c - (k + 1)) (at + (k + 1) * transition_width))
  unfolding items RisingFrom leading
  many_lead a k zero at h r e = absurd (omega arith)
  many_lead a zero (suc c) at h r e =
      let here : at + 0 * transition_width ≡ at = omega arith in
      let same : from at ≡ a = rw here at e in
      let left : suc c - (0 + 1) ≡ c = omega arith in
      let next : at + (0 + 1) * transition_width ≡ at + transition_width = omega arith in
      rw (left, next) (rw (eq-eqb (from at) a same) (omega arith), rise_from {a = from at} {b = a} (items (transition_layout m) c (at + transition_width)) (omega arith) r.1)
  many_lead a (suc k) (suc c) at h r e =
      let there : at + suc k * transition_width ≡ at + transition_width + k * transition_width = omega arith in
      let last : from (at + transition_width + k * transition_width) ≡ a = rw there at e in
      let same : from at ≡ a = omega (arith, r.0, last, low_at (from at) k c (at + transition_width) (omega arith) r.1) in
      let more = many_lead a k c (at + transition_width) (omega arith) (rise_from {a = from at} {b = a} (items (transition_layout m) c (at + transition_width)) (omega arith) r.1) last in
      let left : suc c - (suc k + 1) ≡ c - (k + 1) = omega arith in
      let next : at + (suc k + 1) * transition_width ≡ at + transition_width + (k + 1) * transition_width = omega arith in
      rw (left, next) (rw (eq-eqb (from at) a same) (omega (arith, more.0)), more.1)

-- the same of the transitions from one on
pub leading_many : (m : List ℕ) (n t a i k : ℕ) → k < t - i → RiseFrom a (transitions_from m n i (t - i)) → number 2 m (transition_at n (i + k)) ≡ a
    → (leading a (transitions_from m n i (t - i)) ≡ k + 1 + leading a (transitions_from m n (i + (k + 1)) (t - (i + (k + 1)))))
    × RiseFrom a (transitions_from m n (i + (k + 1)) (t - (i + (k + 1))))
leading_many m n t a i k h r e =
    let there : transition_at n (i + k) ≡ transition_at n i + k * transition_width = omega arith in
    let left : t - (i + (k + 1)) ≡ t - i - (k + 1) = omega arith in
    let next : transition_at n (i + (k + 1)) ≡ transition_at n i + (k + 1) * transition_width = omega arith in
    rw (left, next) (many_lead m a k (t - i) (transition_at n i) h r (rw there at e))

-- ---- a table of where each state's transitions start

-- it stands for the states below a, and the transitions from the first on are those of the others
pub record Found (m : List ℕ) (n t a first : ℕ) (table : List ℕ) : Type 0 where
  pub last : get_or table a 0 ≡ first
  pub inside : (c : ℕ) → c ≤ a → get_or table c 0 ≤ t
  pub rising : (c : ℕ) → c < a → get_or table c 0 ≤ get_or table (suc c) 0
  pub each : (c : ℕ) → c < a → of c (transitions_from m n 0 t) ≡ transitions_from m n (get_or table c 0) (get_or table (suc c) 0 - get_or table c 0)
  pub rest : RiseFrom a (transitions_from m n first (t - first))
  pub others : (c : ℕ) → a ≤ c → of c (transitions_from m n 0 t) ≡ of c (transitions_from m n first (t - first))

pub found_none : (m : List ℕ) (n t : ℕ) (table : List ℕ) → get_or table 0 0 ≡ 0 → RiseFrom 0 (transitions_from m n 0 t) → Found m n t 0 0 table
found_none m n t table e r =
    let all : t - 0 ≡ t = omega arith in
    record {
      last = e;
      inside = λ c h. let zero : c ≡ 0 = omega arith in rw (zero, e) (omega arith);
      rising = λ c h. absurd (omega arith);
      each = λ c h. absurd (omega arith);
      rest = rw all r;
      others = λ c h. rw all;
    }

-- by whether a number is the last
by_last : {C : Type 0} (c a : ℕ) → c < a + 1 → (c < a → C) → (c ≡ a → C) → C
by_last c a h f g = by_test (eqb c a) (λ e. g (eqb-true c a e)) (λ e. f (omega (arith, eqb-false)))

module _ {m : List ℕ} {n t a first : ℕ} {table : List ℕ} (f : Found m n t a first table) (next : ℕ) (room : a + 1 < length table)
    (low : first ≤ t) (is : next ≡ first + leading a (transitions_from m n first (t - first))) where
  abbrev many : ℕ
  many = leading a (transitions_from m n first (t - first))

  few : many ≤ t - first
  few = omega (arith, leading_le a (transitions_from m n first (t - first)), items_length (transition_layout m) (t - first) (transition_at n first))

  -- the entries of the table
  newest : get_or (set table (a + 1) next) (a + 1) 0 ≡ next
  newest = get_or-set_same table (a + 1) next 0 room

  older : (c : ℕ) → c < a + 1 → get_or (set table (a + 1) next) c 0 ≡ get_or table c 0
  older c h = get_or-set_other table (a + 1) c next 0 (omega arith)

  -- the transitions at the front, and those behind
  front : take many (transitions_from m n first (t - first)) ≡ transitions_from m n first many
  front = items_take (transition_layout m) transition_width (λ at. refl) many (t - first) (transition_at n first) few

  behind : drop many (transitions_from m n first (t - first)) ≡ transitions_from m n next (t - next)
  behind =
      let left : t - first - many ≡ t - next = omega arith in
      let place : transition_at n first + many * transition_width ≡ transition_at n next = omega arith in
      items_drop (transition_layout m) transition_width (λ at. refl) many (t - first) (transition_at n first) few ∙ rw (left, place)

  pub found_next : Found m n t (a + 1) next (set table (a + 1) next)
  found_next = record {
    last = newest;
    inside = λ c h. by_last c (a + 1) (omega arith) (λ l. rw (older c l) (f.inside c (omega arith))) (λ e. rw (e, newest) (omega (arith, few)));
    rising = λ c h. by_last c a h
        (λ l. rw (older c h, older (suc c) (omega arith)) (f.rising c l))
        (λ e. let past : suc c ≡ a + 1 = omega arith in rw (older c h, past, newest, e, f.last) (omega arith));
    each = λ c h. by_last c a h
        (λ l. rw (older c h, older (suc c) (omega arith)) (f.each c l))
        (λ e. let past : suc c ≡ a + 1 = omega arith in
        let width : next - first ≡ many = omega arith in
        rw (older c h, past, newest, e, f.last, width)
        (f.others a (omega arith) ∙ leading_are a (transitions_from m n first (t - first)) f.rest ∙ front));
    rest = rw behind at (leading_past a (transitions_from m n first (t - first)) f.rest);
    others = λ c h. f.others c (omega arith) ∙ leading_other a c (transitions_from m n first (t - first)) (omega arith) ∙ ap (of c) behind;
  }

pub found_all : {m : List ℕ} {n t first : ℕ} {table : List ℕ} → Found m n t n first table → Starts m n t table
found_all f = record { inside = f.inside; rising = f.rising; each = f.each }

-- what the table says of a state
pub starts_own : {m : List ℕ} {n t : ℕ} {table : List ℕ} → Starts m n t table → (a : ℕ) → a < n
    → Own m n t a (get_or table a 0) (get_or table (a + 1) 0 - get_or table a 0)
starts_own {m} {n} {t} {table} s a h = record {
  state = h;
  inside = rw add-one (omega (arith, s.inside (suc a) h, s.inside a (omega arith)));
  are = rw add-one (s.each a h);
}
