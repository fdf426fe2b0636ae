-- Taking records in: a range of them, and two ranges one after the other. Assumes nothing.
use Prim.Native.Nat.{ℕ, ◌+◌, ◌-◌, ◌*◌, ◌<◌, ◌≤◌, min, max}
use mathlib.Core.List.Memᴰ
use mathlib.Core.List.{List, ◌++◌}
use mathlib.Core.Bool.{Bool, true, false, cond}
use mathlib.Core.Logic.{◌⊎◌, inl, inr, ⊎_elim}
use mathlib.Core.Path.{◌≡◌, refl, sym, ap, subst, ◌∙◌}
use lib.ListN.{get_or}
use lib.Dec.{leb, ltb}
use borrow.Author.Tests.{leb-true, ltb-true, ltb-false}
use native.Mathlib.Omega.{arith}
use Rattle.value.specs.Value.{least, ◌≼◌}
use Rattle.value.specs.Stored.{stored}
use Rattle.value.proofs.Values.{least-≼, ≼-least, ⊑-antisym}
use Rattle.value.proofs.Stored.{stored_least}
use Rattle.wire.specs.Bytes.{number}
use Rattle.wire.specs.Layout.{end, Sound}
use Rattle.wire.proofs.Stride.{end_wide}
use Rattle.wire.proofs.Parts.{part_sound, part_number, part_end, part_of_lem, part_has}
use Rattle.rules.specs.Graph.{Graph, Hyper, Cover}
use Rattle.rules.specs.Rounds.{Assignment, round}
use Rattle.rules.proofs.Reasons.{Reason, by_cover, by_hyper, reason, at_most_lem}
use Rattle.graph.specs.Format.{graph_header, cover_width}
use Rattle.graph.specs.Layouts.{hyper_layout, cover_layout}
use Rattle.graph.specs.declared.view.Records.{Records}
use Rattle.halves.specs.Held.{held}
use Rattle.halves.specs.Room.{half}
use Rattle.scans.specs.Scan.{Done, part_of}
use Rattle.notes.specs.Index.{more_marks, whole_of, spread_of}
use Rattle.notes.specs.declared.Marks.{Marks}
use Rattle.notes.specs.declared.Span.{Span}
use Rattle.marked.specs.Took.{Within, Either, Among, Stands, Took}

-- two parts of a graph together; their round is the least of both rounds
abbrev both : Graph → Graph → Graph
both p q = record { nodes = p.nodes; hypers = p.hypers ++ q.hypers; covers = p.covers ++ q.covers }

round_both : (p q : Graph) (x : Assignment) (v : ℕ) → least (round p x v) (round q x v) ≡ round (both p q) x v
round_both p q x v = ⊑-antisym (record { carries = λ r. least-≼ (round p x v) (round q x v) (one (reason (both p q) x v r)) }) (record { carries = λ r. whole (≼-least (round p x v) (round q x v) r) })
  where
    one : {k : ℕ} → Reason (both p q) x v k → (round p x v ≼ k) ⊎ (round q x v ≼ k)
    one (by_cover c m s e) = ⊎_elim (λ l. inl (at_most_lem p x v (by_cover c l s e))) (λ l. inr (at_most_lem q x v (by_cover c l s e))) (Memᴰ.append_cases p.covers m)
    one (by_hyper h m s f) = ⊎_elim (λ l. inl (at_most_lem p x v (by_hyper h l s f))) (λ l. inr (at_most_lem q x v (by_hyper h l s f))) (Memᴰ.append_cases p.hypers m)

    left : {k : ℕ} → Reason p x v k → Reason (both p q) x v k
    left (by_cover c m s e) = by_cover c (Memᴰ.append_left {s = p.covers} q.covers m) s e
    left (by_hyper h m s f) = by_hyper h (Memᴰ.append_left {s = p.hypers} q.hypers m) s f

    right : {k : ℕ} → Reason q x v k → Reason (both p q) x v k
    right (by_cover c m s e) = by_cover c (Memᴰ.append_right p.covers m) s e
    right (by_hyper h m s f) = by_hyper h (Memᴰ.append_right p.hypers m) s f

    whole : {k : ℕ} → (round p x v ≼ k) ⊎ (round q x v ≼ k) → round (both p q) x v ≼ k
    whole (inl r) = at_most_lem (both p q) x v (left (reason p x v r))
    whole (inr r) = at_most_lem (both p q) x v (right (reason q x v r))

-- two spans in order: what is in the one or the other is in both together
module _ (lo hi from to : ℕ) where
  pub spread_order : (n : ℕ) → lo ≤ hi → from ≤ to → hi ≤ n → to ≤ n → let d = spread_of lo hi from to in (d.lo ≤ d.gap) × (d.gap ≤ d.behind) × (d.behind ≤ d.hi) × (d.hi ≤ n)
  spread_order n a b c d = go (leb hi from) refl (leb to lo) refl
    where
      go : (x : Bool) → leb hi from ≡ x → (y : Bool) → leb to lo ≡ y → let d = spread_of lo hi from to in (d.lo ≤ d.gap) × (d.gap ≤ d.behind) × (d.behind ≤ d.hi) × (d.hi ≤ n)
      go true e y f = rw e (a, leb-true hi from e, b, d)
      go false e true f = rw (e, f) (b, leb-true to lo f, a, c)
      go false e false f = rw (e, f) (omega arith, omega arith, omega arith, omega arith)

  among_spread : (v : ℕ) → lo ≤ hi → from ≤ to → Within lo hi v ⊎ Within from to v → Among (spread_of lo hi from to) v
  among_spread v a b w = go (leb hi from) refl (leb to lo) refl w
    where
      go : (x : Bool) → leb hi from ≡ x → (y : Bool) → leb to lo ≡ y → Within lo hi v ⊎ Within from to v → Among (spread_of lo hi from to) v
      go true e y f (inl w) = let h = leb-true hi from e in rw e (record { outer = (w.0, omega (arith, w.1)); inner = λ g. omega (arith, w.1, g.0) })
      go true e y f (inr w) = let h = leb-true hi from e in rw e (record { outer = (omega (arith, w.0), w.1); inner = λ g. omega (arith, w.0, g.1) })
      go false e true f (inl w) = let h = leb-true to lo f in rw (e, f) (record { outer = (omega (arith, w.0), w.1); inner = λ g. omega (arith, w.0, g.1) })
      go false e true f (inr w) = let h = leb-true to lo f in rw (e, f) (record { outer = (w.0, omega (arith, w.1)); inner = λ g. omega (arith, w.1, g.0) })
      go false e false f (inl w) = rw (e, f) (record { outer = (omega (arith, w.0), omega (arith, w.1)); inner = λ g. omega (arith, g.0, g.1) })
      go false e false f (inr w) = rw (e, f) (record { outer = (omega (arith, w.0), omega (arith, w.1)); inner = λ g. omega (arith, g.0, g.1) })

module _ {g : Records} where
  -- one range after the other
  pub took_both : {P Q P' Q' : ℕ → Type 0} {b₀ b₁ b₂ : List ℕ} {d d' : Span} → Took g P Q b₀ b₁ d → Took g P' Q' b₁ b₂ d'
      → Took g (Either P P') (Either Q Q') b₀ b₂ (spread_of d.lo d.hi d'.lo d'.hi)
  took_both {P} {Q} {P'} {Q'} {b₀} {b₁} {b₂} {d} {d'} t u = record {
    part = both t.part u.part;
    nodes = t.nodes;
    room = record {
      same_length = u.room.same_length ∙ t.room.same_length;
      this = u.room.this ∙ t.room.this;
      past = u.room.past ∙ t.room.past;
      each = λ v l.
          let x = held (half g.nodes 0 b₀) in
          let behind = ap (λ (a : List ℕ). stored (round u.part (held a) v)) t.room.this in
          omega (arith, u.room.each v l, t.room.each v l, behind, ap stored (round_both t.part u.part x v), stored_least (round t.part x v) (round u.part x v));
    };
    hyper_of = λ m. ⊎_elim (λ l. t.hyper_of l) (λ l. u.hyper_of l) (Memᴰ.append_cases t.part.hypers m);
    cover_of = λ m. ⊎_elim (λ l. t.cover_of l) (λ l. u.cover_of l) (Memᴰ.append_cases t.part.covers m);
    hyper_has = λ j k. ⊎_elim (λ l. Memᴰ.append_left {s = t.part.hypers} u.part.hypers (t.hyper_has j l)) (λ l. Memᴰ.append_right t.part.hypers (u.hyper_has j l)) k;
    cover_has = λ j k. ⊎_elim (λ l. Memᴰ.append_left {s = t.part.covers} u.part.covers (t.cover_has j l)) (λ l. Memᴰ.append_right t.part.covers (u.cover_has j l)) k;
    in_order = spread_order d.lo d.hi d'.lo d'.hi g.nodes near far o.3 q.3;
    hyper_among = λ m. among (⊎_elim (λ l. inl (t.hyper_among l).outer) (λ l. inr (u.hyper_among l).outer) (Memᴰ.append_cases t.part.hypers m));
    cover_among = λ m. among (⊎_elim (λ l. inl (t.cover_among l).outer) (λ l. inr (u.cover_among l).outer) (Memᴰ.append_cases t.part.covers m));
  }
    where
      o : (d.lo ≤ d.gap) × (d.gap ≤ d.behind) × (d.behind ≤ d.hi) × (d.hi ≤ g.nodes)
      o = t.in_order

      q : (d'.lo ≤ d'.gap) × (d'.gap ≤ d'.behind) × (d'.behind ≤ d'.hi) × (d'.hi ≤ g.nodes)
      q = u.in_order

      near : d.lo ≤ d.hi
      near = omega (arith, o)

      far : d'.lo ≤ d'.hi
      far = omega (arith, q)

      among : {v : ℕ} → Within d.lo d.hi v ⊎ Within d'.lo d'.hi v → Among (spread_of d.lo d.hi d'.lo d'.hi) v
      among {v} = among_spread d.lo d.hi d'.lo d'.hi v near far

  -- fewer numbers
  pub took_fewer : {P Q P' Q' : ℕ → Type 0} {b₀ b : List ℕ} {d : Span} → Took g P Q b₀ b d → ((j : ℕ) → P' j → P j) → ((j : ℕ) → Q' j → Q j)
      → Took g P' Q' b₀ b d
  took_fewer t ps qs = record {
    part = t.part;
    nodes = t.nodes;
    room = t.room;
    hyper_of = λ m. t.hyper_of m;
    cover_of = λ m. t.cover_of m;
    hyper_has = λ j k. t.hyper_has j (ps j k);
    cover_has = λ j k. t.cover_has j (qs j k);
    in_order = t.in_order;
    hyper_among = λ m. t.hyper_among m;
    cover_among = λ m. t.cover_among m;
  }

  -- the same spans
  pub took_spread : {P Q : ℕ → Type 0} {b₀ b : List ℕ} {d d' : Span} → d' ≡ d → Took g P Q b₀ b d → Took g P Q b₀ b d'
  took_spread {P} {Q} {b₀} {b} e t = subst (Took g P Q b₀ b) (sym e) t

-- two ranges of hyperedges that overlap are within one
module _ (m l : Marks) where
  pub joined_within : (j : ℕ) → Either (Within m.first m.last) (Within l.first l.last) j → Within (min m.first l.first) (max m.last l.last) j
  joined_within j (inl w) = (omega (arith, w.0), omega (arith, w.1))
  joined_within j (inr w) = (omega (arith, w.0), omega (arith, w.1))

  pub joined_stands : {g : Records} → Stands g m → Stands g l → m.first < l.last → l.first < m.last
      → Stands g (more_marks m l)
  joined_stands {g} d e low high = record { upto = omega (arith, d.upto, e.upto); there = λ q. at (ltb l.first m.first) refl; covers_upto = omega (arith, d.covers_upto, e.covers_upto) }
    where
      at : (t : Bool) → ltb l.first m.first ≡ t → cond (ltb l.first m.first) l.at m.at ≡ end (hyper_layout g.bytes.now g.nodes) (min m.first l.first) graph_header
      at true t =
          let h = ltb-true l.first m.first t in
          let is : min m.first l.first ≡ l.first = omega arith in
          rw (t, is) (e.there (omega arith))
      at false t =
          let h = ltb-false l.first m.first t in
          let is : min m.first l.first ≡ m.first = omega arith in
          rw (t, is) (d.there (omega arith))

-- a range
module _ {g : Records} {m : Marks} (d : Stands g m) where
  pub range_sound : {k : ℕ} → k ≡ m.last - m.first → Sound (hyper_layout g.bytes.now g.nodes) g.hypers graph_header → Sound (hyper_layout g.bytes.now g.nodes) k m.at
  range_sound e whole = rw e (part_sound (hyper_layout g.bytes.now g.nodes) g.hypers graph_header m.first m.last m.at d.upto d.there whole)

  -- where its hyperedges end
  pub range_past : {k p : ℕ} → k ≡ m.last - m.first → p ≡ end (hyper_layout g.bytes.now g.nodes) k m.at → m.first < m.last → p ≡ end (hyper_layout g.bytes.now g.nodes) m.last graph_header
  range_past counted e l = e ∙ ap (λ (k : ℕ). end (hyper_layout g.bytes.now g.nodes) k m.at) counted ∙ part_end (hyper_layout g.bytes.now g.nodes) g.hypers graph_header m.first m.last m.at d.upto d.there l

  cover_at : m.low < m.high → g.middle + m.low * cover_width ≡ end (cover_layout g.bytes.now g.nodes) m.low g.middle
  cover_at q = sym (end_wide (cover_layout g.bytes.now g.nodes) 8 (λ p. refl) m.low g.middle)

  pub took_range : {k lo hi : ℕ} {b₀ b : List ℕ} → k ≡ m.last - m.first → lo ≤ hi → hi ≤ g.nodes
      → Done g.nodes 0 g.nodes b₀ b (λ v. min (get_or b₀ (g.nodes + v) 0) (stored (round (part_of g.bytes.now g.nodes k m.at (m.high - m.low) (g.middle + m.low * cover_width)) (held (half g.nodes 0 b₀)) v)))
      → ((j : ℕ) → m.first ≤ j → j < m.last → Within lo hi (number 2 g.bytes.now (end (hyper_layout g.bytes.now g.nodes) j graph_header)))
      → ((j : ℕ) → m.low ≤ j → j < m.high → Within lo hi (number 2 g.bytes.now (end (cover_layout g.bytes.now g.nodes) j g.middle)))
      → Took g (Within m.first m.last) (Within m.low m.high) b₀ b (whole_of lo hi)
  unfolding part_of
  took_range {k} {lo} {hi} {b₀} {b} counted low high done hypers covers = record {
    part = part_of g.bytes.now g.nodes (m.last - m.first) m.at (m.high - m.low) (g.middle + m.low * cover_width);
    nodes = refl;
    room = rw counted at done;
    hyper_of = λ i. part_of_lem (hyper_layout g.bytes.now g.nodes) g.hypers graph_header m.first m.last m.at d.upto d.there i;
    cover_of = λ i. part_of_lem (cover_layout g.bytes.now g.nodes) g.covers g.middle m.low m.high (g.middle + m.low * cover_width) d.covers_upto cover_at i;
    hyper_has = λ j w. part_has (hyper_layout g.bytes.now g.nodes) g.hypers graph_header m.first m.last m.at d.upto d.there j w.0 w.1;
    cover_has = λ j w. part_has (cover_layout g.bytes.now g.nodes) g.covers g.middle m.low m.high (g.middle + m.low * cover_width) d.covers_upto cover_at j w.0 w.1;
    in_order = (omega arith, omega arith, low, high);
    hyper_among = λ i.
        let r = part_number (hyper_layout g.bytes.now g.nodes) g.hypers graph_header m.first m.last m.at d.upto d.there i in
        subst (λ (x : Hyper). Among (whole_of lo hi) x.source) (sym r.3) (whole (hypers r.0 r.1 r.2));
    cover_among = λ i.
        let r = part_number (cover_layout g.bytes.now g.nodes) g.covers g.middle m.low m.high (g.middle + m.low * cover_width) d.covers_upto cover_at i in
        subst (λ (x : Cover). Among (whole_of lo hi) x.source) (sym r.3) (whole (covers r.0 r.1 r.2));
  }
    where
      whole : {v : ℕ} → Within lo hi v → Among (whole_of lo hi) v
      whole w = record { outer = w; inner = λ g. omega (arith, g.0, g.1) }
