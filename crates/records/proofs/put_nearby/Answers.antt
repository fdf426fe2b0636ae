-- `records::put_nearby` meets its contract: what is written for the transitions left, those that are looked at, makes the whole.
use Prim.Native.Nat.{ℕ, suc, ◌+◌, ◌*◌, ◌-◌, ◌%◌, ◌<◌, ◌≤◌}
use mathlib.Core.List.{List}
use mathlib.Core.Bool.{Bool, true}
use mathlib.Core.Path.{◌≡◌, refl, sym, ap, subst, ◌∙◌}
use mir.Val.{bool_byte}
use native.Mathlib.Nat.{suc-mul}
use native.Mathlib.Numerals.{add-one}
use native.Mathlib.Omega.{arith}
use lib.ListN.{length}
use Rattle.lists.proofs.Tests.{by_test}
use Rattle.wire.specs.Bytes.{number}
use Rattle.wire.specs.Layout.{Layout}
use Rattle.wire.specs.Write.{write_all}
use Rattle.wire.proofs.Laid.{said}
use Rattle.wire.proofs.Written.{write_all_keep}
use Rattle.model.specs.Format.{to_at, transition_width, transition_at}
use Rattle.model.specs.Model.{Transition}
use Rattle.transitions.specs.Held.{transition_layout}
use Rattle.transitions.specs.Views.{list_of, is_near_by}
use Rattle.records.specs.Bytes.{nearby_bytes}
use Rattle.transitions.proofs.Counting.{passing, passing_le, passing_none, passing_turn, last_passes}
use Rattle.transitions.proofs.Sides.{successor_of}
use Rattle.records.proofs.Edges.{filling_all, filling_none, next_readable, next_named}
use Rattle.records.proofs.Nearby.{near_long, near_wide, near, near_short, near_fits, near_stays, near_goes, filled_at, fewer_read, fewer_named}
use Rattle.records.proofs.put_nearby.Invariants.{one}
use Rattle.records.proofs.put_nearby.Goals as goal
use Rattle.records.proofs.put_nearby.Goals.{After-number_at-both, In-loop}

pub loop-init : goal.loop-init
unfolding near
loop-init c =
    let a = c.args in
    let out = a.out in
    let test = is_near_by a.look in
    let L = transition_layout out.bytes.now in
    let k = c.last_in-upto.result in
    let from = c.start-p.ensures in
    let upto = c.last_in-upto.ensures in
    let whole_is = ap (write_all (one a.q a.v a.shift)) (sym upto.all) ∙ write_all_keep (one a.q a.v a.shift) test _ in
    let all : passing L test k c.start-p.result ≡ passing L test out.many (transition_at out.states out.first) =
    ap (passing L test k) from ∙ ap length upto.all in
    let left : k - 0 ≡ k = omega arith in
    rw left (
      filled_at (filling_all _ _ _ (fewer_read out.reads k upto.some) (fewer_named _ _ _ _ c.requires.named k upto.some) _ _ _ whole_is c.requires.inside from) (omega arith),
      λ h. subst (λ (x : ℕ). test (L.item (x + (k - 1) * transition_width)) ≡ true) (sym from) (upto.last h),
      omega (arith, all),
    )

abbrev test : In-loop → Transition → Bool
test c = is_near_by c.args.look

abbrev layout : In-loop → Layout Transition
layout c = transition_layout c.args.out.bytes.now

-- how many are left
abbrev left : In-loop → ℕ
left c = c.last_in-upto.result - c.loop.counter

more : (c : In-loop) → 0 < left c
more c = omega (arith, c.loop-test.true)

-- one of those left is looked at, so bytes are left
some : (c : In-loop) → 1 ≤ passing (layout c) (test c) (left c) c.loop.p
some c =
    let l = c.loop in
    let whole : suc (left c - 1) ≡ left c = omega (arith, more c) in
    subst (λ (k : ℕ). 1 ≤ passing (layout c) (test c) k l.p) whole (last_passes (layout c) (test c) transition_width (λ x. refl) (left c - 1) l.p (l.invariant.1 (more c)))

abbrev whole : In-loop → List ℕ
whole c = let a = c.args in nearby_bytes a.q a.v a.look.low a.look.high a.look.most a.shift (list_of a.out)

abbrev next : In-loop → ℕ
next c = c.args.at + c.loop.near * c.near_width-width.result

short : (c : In-loop) → next c < c.args.at + length (whole c)
short c = near_short _ _ _ _ _ (λ u. near_long _ _ _) c.loop.invariant.0 (near_wide c.args.q) (some c)

-- it lies inside
inside : (c : In-loop) → c.loop.p + transition_width ≤ length c.args.out.bytes.now
inside c = next_readable _ _ _ c.loop.invariant.0 (more c)

pub overflow_add-p : goal.overflow_add-p
overflow_add-p c = omega (arith, inside (goal.at.overflow_add-p c).In-loop)

pub number_at-both-requires : goal.number_at-both-requires
number_at-both-requires c = omega (arith, inside (goal.at.number_at-both-requires c).In-loop)

pub is_near_of-here-requires : goal.is_near_of-here-requires
is_near_of-here-requires c = record { transition_inside = inside (goal.at.is_near_of-here-requires c).In-loop; both_value = c.number_at-both.ensures }

-- the successor is the lower half of what was read
successor : (c : After-number_at-both) → c.number_at-both.result % 65536 ≡ number 2 c.args.out.bytes.now (c.loop.p + to_at)
successor c =
    let named = next_named _ _ _ c.loop.invariant.0 (omega (arith, c.loop-test.true)) refl in
    successor_of c.args.out.bytes.now c.loop.p c.number_at-both.result c.number_at-both.ensures (omega (arith, named, c.requires.shift_fits))

pub overflow_mul-next : goal.overflow_mul-next
overflow_mul-next c = omega (arith, short (goal.at.overflow_mul-next c).In-loop, c.requires.inside)

pub overflow_add-next : goal.overflow_add-next
overflow_add-next c = omega (arith, short (goal.at.overflow_add-next c).In-loop, c.requires.inside)

pub overflow_add-p-in-loop : goal.overflow_add-p-in-loop
overflow_add-p-in-loop c = omega (arith, inside (goal.at.overflow_add-p-in-loop c).In-loop)

pub overflow_add-to : goal.overflow_add-to
overflow_add-to c =
    let named = next_named _ _ _ c.loop.invariant.0 (more (goal.at.overflow_add-to c).In-loop) (successor (goal.at.overflow_add-to c).After-number_at-both) in
    omega (arith, named, c.requires.shift_fits)

pub put_near-requires : goal.put_near-requires
put_near-requires c =
    near_fits _ _ _ _ _ (λ u. near_long _ _ _) c.loop.invariant.0 (short (goal.at.put_near-requires c).In-loop)

-- one more is looked at, or not
turn : (c : In-loop) (b : Bool) → b ≡ test c ((layout c).item c.loop.p) →
    passing (layout c) (test c) (left c) c.loop.p ≡ bool_byte b + passing (layout c) (test c) (left c - 1) (c.loop.p + transition_width)
turn c b is = passing_turn (layout c) (test c) (left c) c.loop.p (more c) b is

pub overflow_add-near : goal.overflow_add-near
overflow_add-near c =
    let out = c.args.out in
    let place = (goal.at.overflow_add-near c).In-loop in
    omega (arith, c.loop.invariant.2, turn place c.is_near_of-here.result c.is_near_of-here.ensures, passing_le (layout place) (test place) out.many (transition_at out.states out.first))

-- the last one stays the last
last_stays : (c : In-loop) → let l = c.loop in
    0 < left c - 1 → test c ((layout c).item (l.p + transition_width + (left c - 1 - 1) * transition_width)) ≡ true
last_stays c h =
    let l = c.loop in
    let there : l.p + (left c - 1) * transition_width ≡ l.p + transition_width + (left c - 1 - 1) * transition_width = omega (arith, h) in
    subst (λ (x : ℕ). test c ((layout c).item x) ≡ true) there (l.invariant.1 (more c))

pub loop-preserved : goal.loop-preserved
loop-preserved c =
    let l = c.loop in
    let place = (goal.at.loop-preserved c).In-loop in
    let width = c.near_width-width.result in
    let here = c.is_near_of-here in
    let less : left place - 1 ≡ c.last_in-upto.result - (l.counter + 1) = omega arith in
    let product : (l.near + 1) * width ≡ l.near * width + width = ap (λ (k : ℕ). k * width) (add-one l.near) ∙ suc-mul l.near width in
    let long = near_long c.args.q c.args.v (c.number_at-both.result % 65536 + c.args.shift) in
    let there : c.args.at + (l.near + 1) * width ≡ c.put_near.result = omega (arith, product, c.put_near.ensures.next_is, c.near_width-width.ensures, long) in
    let to = successor (goal.at.loop-preserved c).After-number_at-both in
    let fewer = turn place here.result here.ensures in
    rw (← less) (
      by_test here.result
          (λ e. rw e (filled_at (near_stays _ _ _ _ _ (λ u. near_long _ _ _) l.invariant.0 (short place) refl to c.put_near.ensures (sym here.ensures ∙ e)) there))
          (λ e. rw e (filled_at (near_goes _ _ _ _ _ (λ u. near_long _ _ _) l.invariant.0 (short place) refl to c.put_near.ensures (sym here.ensures ∙ e)) (omega arith))),
      last_stays place,
      omega (arith, fewer, l.invariant.2),
    )

pub shape_of-room : goal.shape_of-room
shape_of-room c = c.loop.invariant.0.left.length_is

pub returns : goal.returns
returns c =
    let l = c.loop in
    let a = c.args in
    let none : c.last_in-upto.result - l.counter ≡ 0 = omega (arith, c.loop-test.false) in
    let wide = c.near_width-width.ensures in record {
      value = omega (arith, passing_none (transition_layout a.out.bytes.now) (is_near_by a.look) (c.last_in-upto.result - l.counter) l.p none, l.invariant.2);
      laid = said (filling_none _ _ _ l.invariant.0 none) refl refl (ap (λ (w : ℕ). a.at + l.near * w) (sym wide));
    }
