-- A turn that takes in the records that are marked and the long hyperedges, and those between them: every other edge has targets that
-- stayed. Assumes nothing.
use Prim.Native.Nat.{ℕ, suc, ◌+◌, ◌*◌, ◌<◌, ◌≤◌}
use mathlib.Core.List.Memᴰ
use mathlib.Core.List.{List, []}
use mathlib.Core.Bool.{Bool, true, false}
use mathlib.Core.Logic.{◌⊎◌, inl, inr}
use mathlib.Core.Path.{◌≡◌, refl, sym, ap, subst, ◌∙◌}
use lib.ListN.{length, get_or}
use native.Mathlib.Decide.{ℕ_discrete, dec_lt}
use native.Mathlib.Numerals.{add-one}
use native.Mathlib.Omega.{arith}
use Rattle.lists.specs.Lists.{◌∈◌}
use Rattle.value.specs.Stored.{stored}
use Rattle.wire.specs.Bytes.{number}
use Rattle.wire.specs.Layout.{items, end}
use Rattle.wire.proofs.Stride.{end_wide}
use Rattle.wire.proofs.Parts.{∈-items}
use Rattle.rules.specs.Graph.{Hyper, Cover, Target}
use Rattle.rules.specs.Rounds.{rounds}
use Rattle.rules.proofs.Skip.{Part, IdleHyper, IdleCover, stayed_hyper, stayed_cover, untouched}
use Rattle.graph.specs.Format.{graph_header, cover_target_at, cover_width}
use Rattle.graph.specs.Layouts.{hyper_layout, cover_layout, decoded}
use Rattle.graph.specs.Viewed.{decoded_of}
use Rattle.graph.specs.declared.view.Records.{Records}
use Rattle.notes.specs.Index.{slot_of, slot_at, whole_of, unnoted, targets_at, long_for, Spans, Noted, Longs, NotedCovers, Marked, Published, Besides}
use Rattle.notes.specs.declared.Marks.{Marks}
use Rattle.notes.specs.declared.Span.{Span}
use Rattle.turns.specs.Turns.{AtRound}
use Rattle.turns.proofs.Loop.{same_stays}
use Rattle.marked.specs.Took.{Within, Either, Among, Stands, Took}

-- what a turn has at hand: the graph is ready, its records are noted, or long, and what the changed nodes reach is marked
pub record Marking (g : Records) (slots : List Marks) (b b₁ : List ℕ) (m l : Marks) : Type 0 where
  pub few : g.hypers ≤ unnoted
  pub noted : Noted g.bytes.now g.nodes g.hypers [] slots
  pub longs : Longs g.bytes.now g.nodes g.hypers l
  pub noted_covers : NotedCovers g.bytes.now g.nodes g.covers g.middle slots
  pub published : Published g.nodes g.nodes slots b b₁ m

-- the edges that are marked, and the long ones
module _ {g : Records} {slots : List Marks} {b b₁ : List ℕ} {marks l : Marks} (marking : Marking g slots b b₁ marks l) where
  upto : marks.last ≤ g.hypers
  upto = marking.published.hypers.top g.hypers marking.noted.within

  pub marks_stand : Stands g marks
  marks_stand = record {
    upto = upto;
    there = λ q.
        let u = marking.published.placed (omega (arith, upto, marking.few)) in
        u.3 ∙ marking.noted.placed u.0 u.1 (omega (arith, u.2, upto, marking.few)) ∙ ap (λ (k : ℕ). end (hyper_layout g.bytes.now g.nodes) k graph_header) (sym u.2);
    covers_upto = marking.published.covers.top g.covers marking.noted_covers.within;
  }

  pub longs_stand : Stands g l
  longs_stand =
      let d = marking.longs in
      record { upto = d.upto; there = λ q. d.there (omega (arith, d.upto, marking.few)); covers_upto = omega (arith, d.no_covers) }

  module _ {budget i : ℕ} {b₀ b₂ : List ℕ} {d : Span} (w : AtRound (decoded_of g) budget i b₀ b)
      (took : Took g (Either (Within marks.first marks.last) (Within l.first l.last)) (Within marks.low marks.high) b₁ b₂ d) where
    -- a node that stays, or one whose records are marked
    stay_or : (v : ℕ) → v < g.nodes → {first last : Marks → ℕ} {a z j : ℕ} → Marked first last g.nodes g.nodes slots b a z → let m = slot_at slots (slot_of g.nodes v) in Spans (first m) (last m) j → ¬ Within a z j
        → rounds (decoded_of g) i v ≡ rounds (decoded_of g) (suc i) v
    unfolding decoded
    stay_or v named {first} {last} {a} {z} {j} m sp out = go (ℕ_discrete (get_or b v 0) (get_or b (g.nodes + v) 0))
      where
        go : Dec (get_or b v 0 ≡ get_or b (g.nodes + v) 0) → rounds (decoded_of g) i v ≡ rounds (decoded_of g) (suc i) v
        go (yes e) = same_stays (decoded_of g) g.ready.closed g.ready.storable w v named e
        go (no e) = let r = m.reach v named e in absurd (out (omega (arith, r.0, sp.from), omega (arith, r.1, sp.upto)))

    within_or : (a z j : ℕ) → Within a z j ⊎ (¬ Within a z j)
    within_or a z j = go (dec_lt j a) (dec_lt j z)
      where
        go : Dec (j < a) → Dec (j < z) → Within a z j ⊎ (¬ Within a z j)
        go (no low) (yes high) = inl (omega arith, high)
        go (yes low) q = inr (λ o. omega (arith, o.0))
        go (no low) (no high) = inr (λ o. high o.1)

    hyper_in : {x : Hyper} → x ∈ items (hyper_layout g.bytes.now g.nodes) g.hypers graph_header → (j : ℕ) × (j < g.hypers) × (x ≡ (hyper_layout g.bytes.now g.nodes).item (end (hyper_layout g.bytes.now g.nodes) j graph_header))
        → (x ∈ took.part.hypers) ⊎ IdleHyper (rounds (decoded_of g) (suc i)) x
    unfolding decoded
    hyper_in {x} m (j, below, is) = go (within_or marks.first marks.last j) (long_for g.nodes (length (targets_at g.bytes.now g.nodes j))) refl
      where
        has : Either (Within marks.first marks.last) (Within l.first l.last) j → x ∈ took.part.hypers
        has k = subst (λ (y : Hyper). y ∈ took.part.hypers) (sym is) (took.hyper_has j k)

        spanned : (t : Target) → (let m = slot_at slots (slot_of g.nodes t.node) in Spans m.first m.last j) ⊎ ((j + 1 ≡ g.hypers) × (t ∈ [])) → (let m = slot_at slots (slot_of g.nodes t.node) in Spans m.first m.last j)
        spanned t (inl sp) = sp
        spanned t (inr q) = absurd (Memᴰ.not-nil q.1)

        go : Within marks.first marks.last j ⊎ (¬ Within marks.first marks.last j) → (t : Bool) → long_for g.nodes (length (targets_at g.bytes.now g.nodes j)) ≡ t
            → (x ∈ took.part.hypers) ⊎ IdleHyper (rounds (decoded_of g) (suc i)) x
        go (inl k) t e = inl (has (inl k))
        go (inr out) true e = inl (has (inr (marking.longs.holds j below e)))
        go (inr out) false e = inr (stayed_hyper (decoded_of g) i m (λ t k.
            stay_or t.node (g.ready.closed.hyper m k) marking.published.hypers (spanned t (marking.noted.reach j t below e (subst (λ (y : Hyper). t ∈ y.targets) is k))) out))

    cover_in : {x : Cover} → x ∈ items (cover_layout g.bytes.now g.nodes) g.covers g.middle → (j : ℕ) × (j < g.covers) × (x ≡ (cover_layout g.bytes.now g.nodes).item (end (cover_layout g.bytes.now g.nodes) j g.middle))
        → (x ∈ took.part.covers) ⊎ IdleCover (rounds (decoded_of g) (suc i)) x
    unfolding decoded
    cover_in {x} m (j, below, is) = go (within_or marks.low marks.high j)
      where
        whole : x ∈ items (cover_layout g.bytes.now g.nodes) g.covers (end (hyper_layout g.bytes.now g.nodes) g.hypers graph_header)
        whole = subst (λ (p : ℕ). x ∈ items (cover_layout g.bytes.now g.nodes) g.covers p) g.behind m

        target_is : number 2 g.bytes.now (g.middle + j * cover_width + cover_target_at) ≡ x.target
        target_is = ap (λ (p : ℕ). number 2 g.bytes.now (p + cover_target_at)) (sym (end_wide (cover_layout g.bytes.now g.nodes) 8 (λ p. refl) j g.middle)) ∙ ap (λ (y : Cover). y.target) (sym is)

        go : Within marks.low marks.high j ⊎ (¬ Within marks.low marks.high j) → (x ∈ took.part.covers) ⊎ IdleCover (rounds (decoded_of g) (suc i)) x
        go (inl k) = inl (subst (λ (y : Cover). y ∈ took.part.covers) (sym is) (took.cover_has j k))
        go (inr out) = inr (stayed_cover (decoded_of g) i whole
            (stay_or x.target (g.ready.closed.cover whole) marking.published.covers (subst (λ (v : ℕ). let m = slot_at slots (slot_of g.nodes v) in Spans m.low m.high j) target_is (marking.noted_covers.reach j below)) out))

    -- every other edge has targets that stayed
    pub took_part : Part (decoded_of g) took.part (rounds (decoded_of g) (suc i))
    unfolding decoded
    took_part = record {
      nodes = took.nodes;
      hyper_of = λ m. took.hyper_of m;
      cover_of = λ {c = x} m. subst (λ (p : ℕ). x ∈ items (cover_layout g.bytes.now g.nodes) g.covers p) g.behind (took.cover_of m);
      hyper_in = λ m. hyper_in m (∈-items (hyper_layout g.bytes.now g.nodes) g.hypers graph_header m);
      cover_in = λ {c = x} m. let m' = subst (λ (p : ℕ). x ∈ items (cover_layout g.bytes.now g.nodes) g.covers p) (sym g.behind) m in cover_in m' (∈-items (cover_layout g.bytes.now g.nodes) g.covers g.middle m');
    }

    -- a node of which no edge was taken in stays in the next round too
    pub took_besides : AtRound (decoded_of g) budget (i + 1) b₀ b₂ → Besides g.nodes d b₂
    unfolding decoded
    took_besides w' = record {
      in_order = took.in_order;
      beside = record {
        before = λ v l named. stays v named (λ o. omega (arith, o.outer.0));
        behind = λ v l named. stays v named (λ o. omega (arith, o.outer.1));
      };
      among = λ v l k. stays v (omega (arith, took.in_order)) (λ o. o.inner (l, k));
    }
      where
        stays : (v : ℕ) → v < g.nodes → ¬ Among d v → get_or b₂ v 0 ≡ get_or b₂ (g.nodes + v) 0
        stays v named out =
            let w'' : AtRound (decoded_of g) budget (suc i) b₀ b₂ = rw (add-one i) at w' in
            w''.this v named
            ∙ ap stored (untouched (decoded_of g) took.part g.ready.closed (suc i) took_part v named
            (λ x m e. out (subst (Among d) e (took.hyper_among m))) (λ x m e. out (subst (Among d) e (took.cover_among m))))
            ∙ sym (w''.next v named)

-- of all nodes nothing is said
pub besides_all : {n : ℕ} {b : List ℕ} → Besides n (whole_of 0 n) b
besides_all = record {
  in_order = (omega arith, omega arith, omega arith, omega arith);
  beside = record { before = λ v l h. absurd (omega arith); behind = λ v l h. absurd (omega arith) };
  among = λ v l h. absurd (omega arith);
}
