-- What is left to be tested of records in order, turn by turn: a target is read with the source behind it. Assumes nothing.
use Prim.Native.Nat.{ℕ, zero, suc, ◌+◌, ◌*◌, ◌-◌, ◌<◌, ◌≤◌}
use mathlib.Core.List.{List}
use mathlib.Core.Bool.{Bool, true, false, cond, ◌&&◌, and-true, and-false}
use mathlib.Core.Path.{◌≡◌, refl, ap, ◌∙◌}
use lib.ListN.{length}
use lib.Dec.{leb, ltb}
use borrow.Author.Tests.{leb-true, le-leb, ltb-true, lt-ltb}
use native.Mathlib.Numerals.{sub-one}
use native.Mathlib.Omega.{arith}
use Rattle.lists.proofs.Tests.{by}
use Rattle.wire.specs.Bytes.{number}
use Rattle.std.specs.Prelude.{Option, Some, None}
use Rattle.ordered.specs.Ordered.{record_width, in_order, source_behind, last_named}

-- records of one width that are left up to an end: none, some, and one less
left_none : (behind w at end : ℕ) → at + behind * w ≡ end → end ≤ at → 0 < w → behind ≡ 0
left_none zero w at end there over some = refl
left_none (suc behind) w at end there over some = absurd (omega arith)

left_some : (behind w at end : ℕ) → at + behind * w ≡ end → at < end → 0 < behind
left_some zero w at end there before = absurd (omega arith)
left_some (suc behind) w at end there before = omega arith

pub left_less : (behind w at end : ℕ) → at + behind * w ≡ end → 0 < behind → at + w + (behind - 1) * w ≡ end
left_less zero w at end there some = absurd (omega arith)
left_less (suc behind) w at end there some = rw sub-one (omega arith)

-- the first of some tests need not be asked where two others together say what it says
unasked : (a t l b rest : Bool) → (l ≡ true → b ≡ true → a ≡ true) → (a && (t && (l && (b && rest)))) ≡ ((t && l) && (b && rest))
unasked a false l b rest says = and-false a
unasked a true false b rest says = and-false a
unasked a true true false rest says = and-false a
unasked a true true true rest says = rw (says refl refl) refl

-- a source that is found behind a target passed both tests, and where none is found one did not pass
module _ (s : List ℕ) (n before at : ℕ) where
  abbrev follows : Bool
  follows = ltb (number 2 s at) n && leb before (number 2 s (at + 2))

  abbrev answer : Bool → Option ℕ
  answer t = cond t (Some (number 2 s (at + 2))) None

  behind_is : {v : ℕ} → source_behind s n before at ≡ Some v → (follows ≡ true) × (number 2 s (at + 2) ≡ v)
  unfolding source_behind
  behind_is {v} e = go follows e
    where
      go : (t : Bool) → answer t ≡ Some v → (t ≡ true) × (number 2 s (at + 2) ≡ v)
      go true h = (refl, cc)
      go false h = let z : ◌≡◌ {A = ℕ} 0 1 = cc in absurd (omega arith)

  behind_not : source_behind s n before at ≡ None → follows ≡ false
  unfolding source_behind
  behind_not e = go follows e
    where
      go : (t : Bool) → answer t ≡ None → t ≡ false
      go true h = let z : ◌≡◌ {A = ℕ} 0 1 = cc in absurd (omega arith)
      go false h = refl

module _ (s : List ℕ) (n target_at : ℕ) where
  -- what is left to be tested of the record at a position, whose source was read, and of so many behind it
  abbrev from_here : (behind source at : ℕ) → Bool
  from_here behind source at = ltb source n && (ltb (number 2 s (at + target_at)) n && in_order s n target_at behind source (at + record_width target_at))

  -- it is the whole test of the first
  order_begins : (k first : ℕ) → 0 < k → from_here (k - 1) (number 2 s first) first ≡ in_order s n target_at k 0 first
  unfolding in_order
  order_begins zero first some = absurd (omega arith)
  order_begins (suc k) first some = rw (sub-one, le-leb 0 (number 2 s first) (omega arith)) refl

  -- of none there is nothing to test
  pub order_none : (k first : ℕ) → k ≡ 0 → true ≡ in_order s n target_at k 0 first
  unfolding in_order
  order_none zero first none = refl
  order_none (suc k) first none = absurd (omega arith)

  -- it is the test of the target and the source behind it, and of what is left from there on
  order_goes_on : (behind source at : ℕ) → 0 < behind → let next = number 2 s (at + target_at + 2) in
      from_here behind source at ≡ (follows s n source (at + target_at) && from_here (behind - 1) next (at + record_width target_at))
  unfolding in_order
  order_goes_on zero source at some = absurd (omega arith)
  order_goes_on (suc behind) source at some =
      let place : at + target_at + 2 ≡ at + record_width target_at = omega arith in
      let next : ℕ = number 2 s (at + record_width target_at) in
      rw (place, sub-one)
      (unasked (ltb source n) (ltb (number 2 s (at + target_at)) n) (leb source next) (ltb next n) _
      (λ rises less. lt-ltb source n (omega (arith, leb-true source next rises, ltb-true next n less))))

  -- behind the last there is none
  order_ends : (behind source at : ℕ) → behind ≡ 0 → last_named s n target_at at source ≡ from_here behind source at
  unfolding in_order last_named
  order_ends zero source at none = rw (and-true (ltb (number 2 s (at + target_at)) n)) refl
  order_ends (suc behind) source at none = absurd (omega arith)

  -- what is left of k records up to their end: the one whose source was read, and so many behind it
  pub record Left (k first end source at : ℕ) : Type 0 where
    behind : ℕ
    pub there : at + record_width target_at + behind * record_width target_at ≡ end
    pub inside : end ≤ length s
    whole : from_here behind source at ≡ in_order s n target_at k 0 first

  -- all of them, where the first source was read
  pub left_begins : (k first : ℕ) {source : ℕ} → first + k * record_width target_at ≤ length s → 0 < k → source ≡ number 2 s first
      → Left k first (first + k * record_width target_at) source first
  left_begins k first {source} inside some read = record {
    behind = k - 1;
    there = left_less k (record_width target_at) first _ refl some;
    inside = inside;
    whole = ap (λ (v : ℕ). from_here (k - 1) v first) read ∙ order_begins k first some;
  }

  module _ {k first end source at : ℕ} (l : Left k first end source at) where
    -- before the end there are some behind, and one less behind the next
    some_behind : at + record_width target_at < end → 0 < l.behind
    some_behind more = left_some l.behind (record_width target_at) (at + record_width target_at) end l.there more

    one_less : at + record_width target_at < end → at + record_width target_at + record_width target_at + (l.behind - 1) * record_width target_at ≡ end
    one_less more = left_less l.behind (record_width target_at) (at + record_width target_at) end l.there (some_behind more)

    -- another lies before the end
    pub left_another : at + record_width target_at < end → at + record_width target_at + record_width target_at ≤ end
    left_another more = omega (arith, one_less more)

    -- its target was read with the source behind it: the answer, or what is left from that one on
    module _ {target : ℕ} {r : Option ℕ} (more : at + record_width target_at < end) (here : target ≡ at + target_at) (read : r ≡ source_behind s n source target) where
      goes_on : (follows s n source target && from_here (l.behind - 1) (number 2 s (target + 2)) (at + record_width target_at)) ≡ in_order s n target_at k 0 first
      goes_on = rw here (by (order_goes_on l.behind source at (some_behind more)) l.whole)

      pub left_fails : r ≡ None → false ≡ in_order s n target_at k 0 first
      left_fails is = rw (behind_not s n source target (by read is)) at goes_on

      pub left_passes : {v next : ℕ} → r ≡ Some v → next ≡ at + record_width target_at → Left k first end v next
      left_passes is there =
          let found = behind_is s n source target (by read is) in
          record {
            behind = l.behind - 1;
            there = rw there (one_less more);
            inside = l.inside;
            whole = rw there (rw found.1 at (rw found.0 at goes_on));
          }

    -- the last alone is left
    pub left_last : end ≤ at + record_width target_at → last_named s n target_at at source ≡ in_order s n target_at k 0 first
    left_last over =
        let none = left_none l.behind (record_width target_at) (at + record_width target_at) end l.there over (omega arith) in
        order_ends l.behind source at none ∙ l.whole
