-- Bringing the first half up to the second: a turn passes numbers that are the same, or stores one. Assumes nothing.
use Prim.Native.Nat.{ℕ, ◌+◌, ◌-◌, ◌<◌, ◌≤◌, min, max}
use mathlib.Core.List.{List}
use mathlib.Core.Bool.{true, false}
use mathlib.Core.Path.{◌≡◌, refl, sym, subst, ◌∙◌}
use lib.ListN.{length, get_or, set}
use lib.Dec.{ltb}
use borrow.Author.Tests.{ltb-true, ltb-false}
use native.Mathlib.Decide.{ℕ_discrete, dec_lt}
use native.Mathlib.Omega.{arith}
use Rattle.lists.proofs.Tests.{by_test}
use Rattle.halves.specs.Room.{Alike, Raised}
use Rattle.halves.proofs.Room.{raised_none, raised_alike, raised_set}
use Rattle.notes.specs.Index.{slot_of, slot_at, unnoted, Marked, Placed, no_marks, more_marks, Slots, Everything, Published, Besides}
use Rattle.notes.specs.declared.Marks.{Marks}
use Rattle.notes.specs.declared.Span.{Span}
use Rattle.notes.proofs.Noting.{slot_below}

-- marks: none; k more nodes that did not change; one more
marked_none : {n : ℕ} {first last : Marks → ℕ} {slots : List Marks} {b : List ℕ} → Marked first last n 0 slots b unnoted 0
marked_none = record { reach = λ v l. absurd (omega arith); top = λ k h. omega arith }

module _ {n i : ℕ} {first last : Marks → ℕ} {slots : List Marks} {b : List ℕ} {a z : ℕ} (d : Marked first last n i slots b a z) where
  marked_alike : (k : ℕ) → ((v : ℕ) → i ≤ v → v < i + k → get_or b v 0 ≡ get_or b (n + v) 0) → Marked first last n (i + k) slots b a z
  marked_alike k same = record { reach = λ v l ne. go v l ne (dec_lt v i); top = d.top }
    where
      go : (v : ℕ) → v < i + k → ¬ (get_or b v 0 ≡ get_or b (n + v) 0) → Dec (v < i) → (a ≤ first (slot_at slots (slot_of n v))) × (last (slot_at slots (slot_of n v)) ≤ z)
      go v l ne (yes h) = d.reach v h ne
      go v l ne (no h) = absurd (ne (same v (omega arith) l))

  marked_more : (u : ℕ) → u ≡ slot_of n i → Marked first last n (i + 1) slots b (min a (first (slot_at slots u))) (max z (last (slot_at slots u)))
  marked_more u is = rw is (record {
    reach = λ v l ne. go v l ne (ℕ_discrete v i);
    top = λ k h. omega (arith, d.top k h, h (slot_of n i) (slot_below n i));
  })
    where
      go : (v : ℕ) → v < i + 1 → ¬ (get_or b v 0 ≡ get_or b (n + v) 0) → Dec (v ≡ i)
          → (min a (first (slot_at slots (slot_of n i))) ≤ first (slot_at slots (slot_of n v))) × (last (slot_at slots (slot_of n v)) ≤ max z (last (slot_at slots (slot_of n i))))
      go v l ne (yes e) = rw e (omega arith, omega arith)
      go v l ne (no e) = let r = d.reach v (omega arith) ne in (omega (arith, r.0), omega (arith, r.1))

-- slots: none; one more; all of them are enough for any nodes
slots_none : {first last : Marks → ℕ} {slots : List Marks} → Slots first last 0 slots unnoted 0
slots_none = record { reach = λ u l. absurd (omega arith); top = λ k h. omega arith }

module _ {i : ℕ} {first last : Marks → ℕ} {slots : List Marks} {a z : ℕ} (d : Slots first last i slots a z) where
  slots_more : i < 512 → Slots first last (i + 1) slots (min a (first (slot_at slots i))) (max z (last (slot_at slots i)))
  slots_more below = record { reach = λ u l. go u l (ℕ_discrete u i); top = λ k h. omega (arith, d.top k h, h i below) }
    where
      go : (u : ℕ) → u < i + 1 → Dec (u ≡ i) → (min a (first (slot_at slots i)) ≤ first (slot_at slots u)) × (last (slot_at slots u) ≤ max z (last (slot_at slots i)))
      go u l (yes e) = rw e (omega arith, omega arith)
      go u l (no e) = let r = d.reach u (omega arith) in (omega (arith, r.0), omega (arith, r.1))

slots_mark : {n : ℕ} {first last : Marks → ℕ} {slots : List Marks} {b : List ℕ} {a z : ℕ} → Slots first last 512 slots a z → Marked first last n n slots b a z
slots_mark {n} d = record { reach = λ v l ne. d.reach (slot_of n v) (slot_below n v); top = d.top }

-- the first marked hyperedge stays, or is the slot's
placed_more : (slots : List Marks) (m : Marks) → Placed slots m → (u : ℕ) → u < 512 → Placed slots (more_marks m (slot_at slots u))
placed_more slots m d u below = by_test (ltb (slot_at slots u).first m.first) new old
  where
    new : ltb (slot_at slots u).first m.first ≡ true → Placed slots (more_marks m (slot_at slots u))
    new t e = rw t (u, below, omega (arith, ltb-true (slot_at slots u).first m.first t), refl)

    old : ltb (slot_at slots u).first m.first ≡ false → Placed slots (more_marks m (slot_at slots u))
    old t e =
        let same : min m.first (slot_at slots u).first ≡ m.first = omega (arith, ltb-false (slot_at slots u).first m.first t) in
        rw (t, same) (d (omega arith))

-- everything: no slot, one more, and all
pub everything_none : {slots : List Marks} → Everything slots 0 no_marks
everything_none = record { hypers = slots_none; placed = λ l. absurd (omega arith); covers = slots_none }

pub everything_more : {slots : List Marks} {i : ℕ} {m : Marks} → Everything slots i m → i < 512
    → Everything slots (i + 1) (more_marks m (slot_at slots i))
everything_more {slots} {i} {m} d below = record {
  hypers = slots_more d.hypers below;
  placed = placed_more slots m d.placed i below;
  covers = slots_more d.covers below;
}

pub everything_marks : {n : ℕ} {slots : List Marks} {b₀ b : List ℕ} {m : Marks} → Everything slots 512 m → Raised n n b₀ b
    → Published n n slots b₀ b m
everything_marks d raised = record { raised = raised; hypers = slots_mark d.hypers; placed = d.placed; covers = slots_mark d.covers }

-- the same of all that is published
published_none : {n : ℕ} {slots : List Marks} {b : List ℕ} → Published n 0 slots b b no_marks
published_none = record { raised = raised_none; hypers = marked_none; placed = λ l. absurd (omega arith); covers = marked_none }

module _ {n i : ℕ} {slots : List Marks} {b₀ b : List ℕ} {m : Marks} (d : Published n i slots b₀ b m) where
  -- k numbers that are the same, and one
  pub published_alike : (k : ℕ) → Alike n i k b → Published n (i + k) slots b₀ b m
  published_alike k same =
      let r = raised_alike d.raised k same in
      record { raised = r.0; hypers = marked_alike d.hypers k r.1; placed = d.placed; covers = marked_alike d.covers k r.1 }

  pub published_same : get_or b i 0 ≡ get_or b (n + i) 0 → Published n (i + 1) slots b₀ b m
  published_same e = published_alike 1 (λ v l. let z : i + v ≡ i = omega arith in rw z e)

  -- one that is stored, of a slot
  pub published_more : i < n → n + n ≤ length b₀ → (u : ℕ) → u ≡ slot_of n i
      → Published n (i + 1) slots b₀ (set b i (get_or b (n + i) 0)) (more_marks m (slot_at slots u))
  published_more inside room u is = record {
    raised = raised_set d.raised inside room;
    hypers = marked_more d.hypers u is;
    placed = placed_more slots m d.placed u (rw is (slot_below n i));
    covers = marked_more d.covers u is;
  }

-- where only the nodes of two spans differ: to where the first begins, over the gap, and behind the second
module _ {n : ℕ} {span : Span} {slots : List Marks} {b₀ : List ℕ} (d : Besides n span b₀) where
  pub published_begin : {m : Marks} → m ≡ no_marks → Published n span.lo slots b₀ b₀ m
  published_begin none =
      let e : 0 + span.lo ≡ span.lo = omega arith in
      let o = d.in_order in
      rw none (subst (λ (i : ℕ). Published n i slots b₀ b₀ no_marks) e
      (published_alike published_none span.lo (λ v l. let z : 0 + v ≡ v = omega arith in rw z (d.beside.before v l (omega (arith, o))))))

  module _ {b : List ℕ} {m : Marks} where
    pub published_over : Published n span.gap slots b₀ b m → Published n span.behind slots b₀ b m
    published_over p =
        let o = d.in_order in
        let e : span.gap + (span.behind - span.gap) ≡ span.behind = omega (arith, o) in
        subst (λ (k : ℕ). Published n k slots b₀ b m) e
        (published_alike p (span.behind - span.gap) (λ v l.
        p.raised.stays (span.gap + v) (omega arith) ∙ d.among (span.gap + v) (omega arith) (omega arith) ∙ sym (p.raised.stays (n + (span.gap + v)) (omega arith))))

    pub published_rest : Published n span.hi slots b₀ b m → Published n n slots b₀ b m
    published_rest p =
        let o = d.in_order in
        let e : span.hi + (n - span.hi) ≡ n = omega (arith, o) in
        subst (λ (k : ℕ). Published n k slots b₀ b m) e
        (published_alike p (n - span.hi) (λ v l.
        p.raised.stays (span.hi + v) (omega arith) ∙ d.beside.behind (span.hi + v) (omega arith) (omega arith) ∙ sym (p.raised.stays (n + (span.hi + v)) (omega arith))))
