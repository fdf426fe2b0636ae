-- Noting hyperedges for the slots of their targets: a turn notes the next target. Assumes nothing.
use Prim.Native.Nat.{ℕ, ◌+◌, ◌-◌, ◌*◌, min, ◌/◌, ◌%◌, ◌<◌, ◌≤◌}
use mathlib.Core.List.Memᴰ
use mathlib.Core.List.{List, [], ◌∷◌}
use mathlib.Core.Bool.{Bool, true, false, cond, true≢false}
use mathlib.Core.Logic.{◌⊎◌, inl, inr}
use mathlib.Core.Path.{◌≡◌, refl, sym, ap, subst, ◌∙◌}
use lib.ListN.{length, set, length-set, replicate, length-replicate, get_or-replicate}
use lib.Seq.{get_or-set_same, get_or-set_other}
use lib.Dec.{leb, ltb}
use borrow.Author.Tests.{ltb-true, ltb-false}
use native.Mathlib.Decide.{ℕ_discrete, dec_lt}
use native.Mathlib.Omega.{arith}
use Rattle.lists.specs.Lists.{◌∈◌}
use Rattle.wire.specs.Layout.{items, end}
use Rattle.rules.specs.Graph.{Target}
use Rattle.wire.proofs.Layouts.{items_more}
use Rattle.graph.specs.Format.{graph_header, target_width, cover_target_at, cover_width}
use Rattle.graph.specs.Layouts.{target_layout, hyper_layout}
use Rattle.wire.specs.Bytes.{number}
use Rattle.notes.specs.Index.{slot_of, zeros, slot_at, unnoted, targets_at, long_for, Spans, Noted, Longs, NotedCovers, SameHypers, SameCovers, no_marks, hyper_noted, cover_noted}
use Rattle.notes.specs.declared.Marks.{Marks}

pub slot_below : (n v : ℕ) → slot_of n v < 512
unfolding slot_of
slot_below n v = go (leb n 512)
  where
    go : (t : Bool) → cond t (v % 512) (v / 8 % 512) < 512
    go true = omega arith
    go false = omega arith

-- a slot where one was set
slot_set : (P : Marks → Type 0) (slots : List Marks) (u : ℕ) (m : Marks) (v : ℕ) → u < length slots → (v ≡ u → P m) → (¬ (v ≡ u) → P (slot_at slots v))
    → P (slot_at (set slots u m) v)
slot_set P slots u m v h here there = go (ℕ_discrete v u)
  where
    go : Dec (v ≡ u) → P (slot_at (set slots u m) v)
    go (yes e) = rw (e, get_or-set_same slots u m zeros h) (here e)
    go (no e) = rw (get_or-set_other slots u v m zeros e) (there e)

-- slots of which nothing is noted
none_at : (u : ℕ) → u < 512 → slot_at (replicate 512 no_marks) u ≡ no_marks
none_at u l = get_or-replicate {A = Marks} 512 u no_marks zeros l

-- of cover edges the same is noted: in the same slots, over two steps, and where a slot is set to marks of the same cover edges
pub same_covers : {slots : List Marks} → SameCovers slots slots
same_covers = record { same_length = refl; low = λ u. refl; high = λ u. refl }

pub same_covers_on : {a b c : List Marks} → SameCovers a b → SameCovers b c → SameCovers a c
same_covers_on p q = record { same_length = q.same_length ∙ p.same_length; low = λ u. q.low u ∙ p.low u; high = λ u. q.high u ∙ p.high u }

pub same_covers_set : {a b : List Marks} → SameCovers a b → (u j p : ℕ) → u < length b → SameCovers a (set b u (hyper_noted (slot_at b u) j p))
same_covers_set {a} {b} d u j p inside =
    let m = hyper_noted (slot_at b u) j p in
    record {
      same_length = length-set b u m ∙ d.same_length;
      low = λ v. slot_set (λ x. x.low ≡ (slot_at a v).low) b u m v inside (λ e. rw e (d.low u)) (λ e. d.low v);
      high = λ v. slot_set (λ x. x.high ≡ (slot_at a v).high) b u m v inside (λ e. rw e (d.high u)) (λ e. d.high v);
    }

-- the same of hyperedges
pub same_hypers : {slots : List Marks} → SameHypers slots slots
same_hypers = record { same_length = refl; first = λ u. refl; last = λ u. refl; at = λ u. refl }

pub same_hypers_set : {a b : List Marks} → SameHypers a b → (u j : ℕ) → u < length b → SameHypers a (set b u (cover_noted (slot_at b u) j))
same_hypers_set {a} {b} d u j inside =
    let m = cover_noted (slot_at b u) j in
    record {
      same_length = length-set b u m ∙ d.same_length;
      first = λ v. slot_set (λ x. x.first ≡ (slot_at a v).first) b u m v inside (λ e. rw e (d.first u)) (λ e. d.first v);
      last = λ v. slot_set (λ x. x.last ≡ (slot_at a v).last) b u m v inside (λ e. rw e (d.last u)) (λ e. d.last v);
      at = λ v. slot_set (λ x. x.at ≡ (slot_at a v).at) b u m v inside (λ e. rw e (d.at u)) (λ e. d.at v);
    }

module _ (s : List ℕ) (n : ℕ) where
  -- nothing is noted
  pub noted_none : Noted s n 0 [] (replicate 512 no_marks)
  noted_none = record {
    all = length-replicate {A = Marks} 512 no_marks;
    reach = λ i t l. absurd (omega arith);
    placed = λ u l h. absurd (omega (arith, h, ap (λ (m : Marks). m.first) (none_at u l)));
    within = λ u l. omega (arith, ap (λ (m : Marks). m.last) (none_at u l));
  }

  -- what is noted of cover edges changes nothing
  pub noted_kept : {j : ℕ} {rest : List Target} {a b : List Marks} → Noted s n j rest a → SameHypers a b → Noted s n j rest b
  noted_kept {j} {rest} {a} {b} d k = record {
    all = k.same_length ∙ d.all;
    reach = λ i t l short m. rw (k.first (slot_of n t.node), k.last (slot_of n t.node)) (d.reach i t l short m);
    placed = λ u l h. rw (k.at u, k.first u) (d.placed u l (rw (k.first u) at h));
    within = λ u l. rw (k.last u) (d.within u l);
  }

  module _ {j : ℕ} {slots : List Marks} where
    -- the targets of one hyperedge more are left to note
    pub noted_open : Noted s n j [] slots → (ts : List Target) → targets_at s n j ≡ ts → Noted s n (j + 1) ts slots
    noted_open d ts e = record {
      all = d.all;
      reach = λ i t l short m. go i t l short m (dec_lt i j);
      placed = d.placed;
      within = λ u l. omega (arith, d.within u l);
    }
      where
        go : (i : ℕ) (t : Target) → i < j + 1 → long_for n (length (targets_at s n i)) ≡ false → t ∈ targets_at s n i → Dec (i < j) → Spans (slot_at slots (slot_of n t.node)).first (slot_at slots (slot_of n t.node)).last i ⊎ ((i + 1 ≡ j + 1) × (t ∈ ts))
        go i t l short m (yes h) = old (d.reach i t h short m)
          where
            old : Spans (slot_at slots (slot_of n t.node)).first (slot_at slots (slot_of n t.node)).last i ⊎ ((i + 1 ≡ j) × (t ∈ [])) → Spans (slot_at slots (slot_of n t.node)).first (slot_at slots (slot_of n t.node)).last i ⊎ ((i + 1 ≡ j + 1) × (t ∈ ts))
            old (inl sp) = inl sp
            old (inr q) = absurd (Memᴰ.not-nil q.1)
        go i t l short m (no h) = let same : i ≡ j = omega arith in inr (omega arith, rw (ap (targets_at s n) same ∙ e) at m)

    -- one hyperedge more that is long
    pub noted_long : Noted s n j [] slots → long_for n (length (targets_at s n j)) ≡ true → Noted s n (j + 1) [] slots
    noted_long d long = record {
      all = d.all;
      reach = λ i t l short m. go i t l short m (dec_lt i j);
      placed = d.placed;
      within = λ u l. omega (arith, d.within u l);
    }
      where
        go : (i : ℕ) (t : Target) → i < j + 1 → long_for n (length (targets_at s n i)) ≡ false → t ∈ targets_at s n i → Dec (i < j)
            → Spans (slot_at slots (slot_of n t.node)).first (slot_at slots (slot_of n t.node)).last i ⊎ ((i + 1 ≡ j + 1) × (t ∈ []))
        go i t l short m (yes h) = old (d.reach i t h short m)
          where
            old : Spans (slot_at slots (slot_of n t.node)).first (slot_at slots (slot_of n t.node)).last i ⊎ ((i + 1 ≡ j) × (t ∈ [])) → Spans (slot_at slots (slot_of n t.node)).first (slot_at slots (slot_of n t.node)).last i ⊎ ((i + 1 ≡ j + 1) × (t ∈ []))
            old (inl sp) = inl sp
            old (inr q) = absurd (Memᴰ.not-nil q.1)
        go i t l short m (no h) =
            let same : j ≡ i = omega arith in
            absurd (true≢false (sym long ∙ ap (λ (k : ℕ). long_for n (length (targets_at s n k))) same ∙ short))

  -- a hyperedge without targets is not long
  pub none_short : long_for n 0 ≡ false
  unfolding long_for
  none_short = refl

  -- long ones: none; one more that is short, or long
  pub longs_none : Longs s n 0 no_marks
  longs_none = record { holds = λ i l. absurd (omega arith); upto = omega arith; there = λ l. absurd (omega arith); no_covers = refl }

  module _ {j : ℕ} {m : Marks} (d : Longs s n j m) where
    pub longs_short : long_for n (length (targets_at s n j)) ≡ false → Longs s n (j + 1) m
    longs_short short = record { holds = λ i l long. go i l long (dec_lt i j); upto = omega (arith, d.upto); there = d.there; no_covers = d.no_covers }
      where
        go : (i : ℕ) → i < j + 1 → long_for n (length (targets_at s n i)) ≡ true → Dec (i < j) → (m.first ≤ i) × (i < m.last)
        go i l long (yes h) = d.holds i h long
        go i l long (no h) =
            let same : j ≡ i = omega arith in
            absurd (true≢false (sym long ∙ ap (λ (k : ℕ). long_for n (length (targets_at s n k))) (sym same) ∙ short))

    pub longs_more : (p : ℕ) → p ≡ end (hyper_layout s n) j graph_header → Longs s n (j + 1) (hyper_noted m j p)
    longs_more p at = record {
      holds = λ i l long. go i l long (dec_lt i j);
      upto = omega (arith, d.upto);
      there = λ l. stands (ltb j m.first) refl l;
      no_covers = omega (arith, d.no_covers);
    }
      where
        go : (i : ℕ) → i < j + 1 → long_for n (length (targets_at s n i)) ≡ true → Dec (i < j) → (min m.first j ≤ i) × (i < j + 1)
        go i l long (yes h) = let o = d.holds i h long in (omega (arith, o.0), omega arith)
        go i l long (no h) = (omega arith, omega arith)

        stands : (t : Bool) → ltb j m.first ≡ t → min m.first j < unnoted → cond (ltb j m.first) p m.at ≡ end (hyper_layout s n) (min m.first j) graph_header
        stands true e l = let here : min m.first j ≡ j = omega (arith, ltb-true j m.first e) in rw (e, here) at
        stands false e l =
            let here : min m.first j ≡ m.first = omega (arith, ltb-false j m.first e) in
            rw (e, here) (d.there (omega (arith, l, here)))

  module _ {j : ℕ} {slots : List Marks} (i q : ℕ) (d : Noted s n j (items (target_layout s n) i q) slots) where
    -- the next of the targets left, and none left
    pub noted_more : 0 < i → Noted s n j ((target_layout s n).item q ∷ items (target_layout s n) (i - 1) (q + target_width)) slots
    noted_more h = subst (λ (ts : List Target). Noted s n j ts slots) (items_more (target_layout s n) i q h) d

    pub noted_end : i ≡ 0 → Noted s n j [] slots
    unfolding items
    noted_end e = subst (λ (k : ℕ). Noted s n j (items (target_layout s n) k q) slots) e d

  -- the next target's slot notes the hyperedge
  module _ (j : ℕ) {t₀ : Target} {rest : List Target} {slots : List Marks} (d : Noted s n (j + 1) (t₀ ∷ rest) slots) (u : ℕ) (is : u ≡ slot_of n t₀.node)
      (p : ℕ) (at : p ≡ end (hyper_layout s n) j graph_header) where
    inside : u < length slots
    inside = let below : u < 512 = rw is (slot_below n t₀.node) in omega (arith, below, d.all)

    -- it was the slot's first before, or it is now
    stands : (m : Marks) → (m.first < unnoted → m.at ≡ end (hyper_layout s n) m.first graph_header) → (t : Bool) → ltb j m.first ≡ t → min m.first j < unnoted
        → cond (ltb j m.first) p m.at ≡ end (hyper_layout s n) (min m.first j) graph_header
    stands m old true e l = let here : min m.first j ≡ j = omega (arith, ltb-true j m.first e) in rw (e, here) at
    stands m old false e l =
        let here : min m.first j ≡ m.first = omega (arith, ltb-false j m.first e) in
        rw (e, here) (old (omega (arith, l, here)))

    pub noted_turn : Noted s n (j + 1) rest (set slots u (hyper_noted (slot_at slots u) j p))
    noted_turn = record {
      all = length-set slots u m ∙ d.all;
      reach = λ i t h short k. go i t (d.reach i t h short k);
      placed = λ v l. slot_set (λ x. x.first < unnoted → x.at ≡ end (hyper_layout s n) x.first graph_header) slots u m v inside
          (λ e. stands (slot_at slots u) (d.placed u (omega (arith, inside, d.all))) (ltb j (slot_at slots u).first) refl) (λ e. d.placed v l);
      within = λ v l. slot_set (λ x. x.last ≤ j + 1) slots u m v inside (λ e. omega arith) (λ e. d.within v l);
    }
      where
        m : Marks
        m = hyper_noted (slot_at slots u) j p

        go : (i : ℕ) (t : Target) → Spans (slot_at slots (slot_of n t.node)).first (slot_at slots (slot_of n t.node)).last i ⊎ ((i + 1 ≡ j + 1) × (t ∈ (t₀ ∷ rest)))
            → let o = slot_at (set slots u m) (slot_of n t.node) in Spans o.first o.last i ⊎ ((i + 1 ≡ j + 1) × (t ∈ rest))
        go i t (inl sp) =
            let v = slot_of n t.node in
            let low = d.within v (slot_below n t.node) in
            inl (slot_set (λ x. Spans x.first x.last i) slots u m v inside
            (λ e. record { from = omega (arith, sp.from, ap (λ (w : ℕ). (slot_at slots w).first) e); upto = omega (arith, sp.upto, low) }) (λ e. sp))
        go i t (inr q) = new (Memᴰ.cases_cons q.1)
          where
            new : (t ≡ t₀) ⊎ (t ∈ rest) → let o = slot_at (set slots u m) (slot_of n t.node) in Spans o.first o.last i ⊎ ((i + 1 ≡ j + 1) × (t ∈ rest))
            new (inl e) =
                let same : i ≡ j = omega (arith, q.0) in
                inl (rw (same, e, sym is) (slot_set (λ x. Spans x.first x.last j) slots u m u inside (λ e. record { from = omega arith; upto = omega arith }) (λ ne. absurd (ne refl))))
            new (inr k) = inr (q.0, k)

-- cover edges: none, and one more
module _ (s : List ℕ) (n middle : ℕ) where
  pub covers_none : NotedCovers s n 0 middle (replicate 512 no_marks)
  covers_none = record {
    all = length-replicate {A = Marks} 512 no_marks;
    reach = λ i l. absurd (omega arith);
    within = λ u l. omega (arith, ap (λ (m : Marks). m.high) (none_at u l));
  }

  -- what is noted of hyperedges changes nothing
  pub covers_kept : {j : ℕ} {a b : List Marks} → NotedCovers s n j middle a → SameCovers a b → NotedCovers s n j middle b
  covers_kept d k = record {
    all = k.same_length ∙ d.all;
    reach = λ i l. rw (k.low _, k.high _) (d.reach i l);
    within = λ u l. rw (k.high u) (d.within u l);
  }

  pub covers_more : (j : ℕ) {slots : List Marks} → NotedCovers s n j middle slots → (u : ℕ) → u ≡ slot_of n (number 2 s (middle + j * cover_width + cover_target_at))
      → NotedCovers s n (j + 1) middle (set slots u (cover_noted (slot_at slots u) j))
  covers_more j {slots} d u is = record {
    all = length-set slots u m ∙ d.all;
    reach = λ i l. go i (dec_lt i j) l;
    within = λ v l. slot_set (λ x. x.high ≤ j + 1) slots u m v inside (λ q. omega arith) (λ q. omega (arith, d.within v l));
  }
    where
      m : Marks
      m = cover_noted (slot_at slots u) j

      inside : u < length slots
      inside = let below : u < 512 = rw is (slot_below n _) in omega (arith, below, d.all)

      go : (i : ℕ) → Dec (i < j) → i < j + 1 → let o = slot_at (set slots u m) (slot_of n (number 2 s (middle + i * cover_width + cover_target_at))) in Spans o.low o.high i
      go i (yes h) l =
          let sp = d.reach i h in
          let v = slot_of n (number 2 s (middle + i * cover_width + cover_target_at)) in
          slot_set (λ x. Spans x.low x.high i) slots u m v inside
          (λ q. record { from = omega (arith, sp.from, ap (λ (w : ℕ). (slot_at slots w).low) q); upto = l }) (λ q. sp)
      go i (no h) l =
          let same : i ≡ j = omega arith in
          rw (same, sym is) (slot_set (λ x. Spans x.low x.high j) slots u m u inside (λ q. record { from = omega arith; upto = omega arith }) (λ ne. absurd (ne refl)))
