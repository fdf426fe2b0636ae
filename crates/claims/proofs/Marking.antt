-- What a scan finds edge by edge is found of all edges: each is fair, and the sources of those that back them are marked. Assumes nothing.
use Rattle.std.proofs.Common.{◌≡◌, ℕ, zero, suc, ◌-◌, ◌<◌, Bool, true, false, cond, List, [], ◌∷◌, Option, None, Some, ◌⊎◌, inl, inr, length, get_or, set, length-set, get_or-set_same, get_or-set_other, refl, sym, subst, ◌∙◌, not-suc-le-zero, sub-one, arith}
use mathlib.Core.List.Memᴰ
use native.Mathlib.Decide.{ℕ_discrete}
use Rattle.lists.specs.Lists.{◌∈◌}
use Rattle.wire.specs.Read.{Ok}
use Rattle.wire.specs.Reader.{Reader, one, run}
use Rattle.wire.specs.Begin.{start}
use Rattle.wire.specs.Layout.{Layout, items}
use Rattle.wire.specs.declared.State.{State}
use Rattle.wire.proofs.Readers.{run_none}
use Rattle.graph.proofs.Turns.{run_turn, run_next}
use Rattle.edges.specs.declared.Edge.{Edge}
use Rattle.edges.specs.Found.{EdgeFound, Settled}
use Rattle.claims.specs.Scans.{Marked, Scanned}
use Rattle.claims.specs.Chain.{Chain, past, odd, more, marks_behind}

-- one edge more in front of a chain
pub chain_more : {Found : List ℕ → State → Option Edge → Type 0} (k : ℕ) {st : State} {b : List ℕ} (e : Edge) {r : Option ℕ} {b' : List ℕ}
    → 0 < k → Found b st (Some e) → Chain Found (k - 1) e.next (marks_behind e b) r b' → Chain Found k st b r b'
chain_more zero e h f c = absurd (not-suc-le-zero h)
chain_more (suc k) e h f c = more f (rw sub-one at c)

-- or an odd one, where the chain ends
pub chain_odd : {Found : List ℕ → State → Option Edge → Type 0} (k : ℕ) {st : State} {b : List ℕ} → 0 < k → Found b st None → Chain Found k st b None b
chain_odd zero h f = absurd (not-suc-le-zero h)
chain_odd (suc k) h f = odd f

-- none is left
pub chain_past : {Found : List ℕ → State → Option Edge → Type 0} (k : ℕ) {st : State} {b : List ℕ} → k ≡ 0 → Chain Found k st b (Some st.at) b
chain_past {Found} k {st} {b} h = subst (λ (j : ℕ). Chain Found j st b (Some st.at) b) (sym h) past

-- a mark that is set, and those that stay
mark_here : (b : List ℕ) (v : ℕ) → v < length b → get_or (set b v 1) v 0 ≡ 1
mark_here b v l = get_or-set_same b v 1 0 l

mark_stays : (b : List ℕ) (v u : ℕ) → v < length b → get_or b u 0 ≡ 1 → get_or (set b v 1) u 0 ≡ 1
mark_stays b v u l e = go (ℕ_discrete u v)
  where
    go : Dec (u ≡ v) → get_or (set b v 1) u 0 ≡ 1
    go (yes q) = rw q (mark_here b v l)
    go (no q) = get_or-set_other b v u 1 0 q ∙ e

module _ {A : Type 0} (source : A → ℕ) (Fair Backing : A → Type 0) where
  -- the marks of an edge in front of others
  marked_more : (e : A) (es : List A) (b₀ b : List ℕ) → Fair e → (Backing e → get_or b₀ (source e) 0 ≡ 1) → Marked es source Fair Backing b₀ b
      → Marked (e ∷ es) source Fair Backing b₀ b
  marked_more e es b₀ b fair had m = record {
    same_length = m.same_length;
    fair = λ a k. each a k;
    marked = λ a k back. mark a k back;
    stays = m.stays;
    only = λ v q. came v (m.only v q);
  }
    where
      each : (a : A) → a ∈ (e ∷ es) → Fair a
      each a (Memᴰ.head q) = subst Fair (sym q) fair
      each a (Memᴰ.tail k) = m.fair a k

      mark : (a : A) → a ∈ (e ∷ es) → Backing a → get_or b (source a) 0 ≡ 1
      mark a (Memᴰ.head q) back = subst (λ (a : A). get_or b (source a) 0 ≡ 1) (sym q) (m.stays (source e) (had (subst Backing q back)))
      mark a (Memᴰ.tail k) back = m.marked a k back

      came : (v : ℕ) → (get_or b₀ v 0 ≡ 1) ⊎ ((a : A) × (a ∈ es) × (source a ≡ v) × Backing a) → (get_or b₀ v 0 ≡ 1) ⊎ ((a : A) × (a ∈ (e ∷ es)) × (source a ≡ v) × Backing a)
      came v (inl q) = inl q
      came v (inr (a, k, s, back)) = inr (a, Memᴰ.tail k, s, back)

  -- the same where the edge has marked its source
  marked_set : (e : A) (es : List A) (b₀ b : List ℕ) → source e < length b₀ → Fair e → Backing e → Marked es source Fair Backing (set b₀ (source e) 1) b
      → Marked (e ∷ es) source Fair Backing b₀ b
  marked_set e es b₀ b l fair back m =
      let w = marked_more e es (set b₀ (source e) 1) b fair (λ k. mark_here b₀ (source e) l) m in
      record {
        same_length = w.same_length ∙ length-set b₀ (source e) 1;
        fair = w.fair;
        marked = w.marked;
        stays = λ v q. w.stays v (mark_stays b₀ (source e) v l q);
        only = λ v q. go v (ℕ_discrete v (source e)) (w.only v q);
      }
    where
      go : (v : ℕ) → Dec (v ≡ source e) → (get_or (set b₀ (source e) 1) v 0 ≡ 1) ⊎ ((a : A) × (a ∈ (e ∷ es)) × (source a ≡ v) × Backing a)
          → (get_or b₀ v 0 ≡ 1) ⊎ ((a : A) × (a ∈ (e ∷ es)) × (source a ≡ v) × Backing a)
      go v (yes z) w = inr (e, Memᴰ.head refl, sym z, back)
      go v (no z) (inl q) = inl (sym (get_or-set_other b₀ (source e) v 1 0 z) ∙ q)
      go v (no z) (inr w) = inr w

  pub marked_none : (b : List ℕ) → Marked [] source Fair Backing b b
  marked_none b = record { same_length = refl; fair = λ a m. elim m [ ]; marked = λ a m k. elim m [ ]; stays = λ v q. q; only = λ v q. inl q }

module _ {A : Type 0} (R : Reader State A) (L : Layout A) (source : A → ℕ) (Fair Backing : A → Type 0) (Had : List ℕ → A → Type 0)
    (had : (b : List ℕ) (e : A) → Had b e → get_or b (source e) 0 ≡ 1)
    (moved : (st next : State) → one R st ≡ Ok next → next.at ≡ L.next st.at)
    (named : (st next : State) → one R st ≡ Ok next → (next.prev ≡ source (L.item st.at)) × (next.prev < 4096)) where
  -- what is found of an edge
  abbrev FoundAt : List ℕ → State → Option Edge → Type 0
  FoundAt b st r = let e = L.item st.at in EdgeFound (one R st) (Fair e) (Backing e) (Had b e) r

  -- what is found of k edges from a state
  abbrev ScannedFrom : (k : ℕ) → State → (b₀ b : List ℕ) → Option ℕ → Type 0
  ScannedFrom k st b₀ b None = (past : State) → run R k st ≡ Ok past → ¬ ((e : A) → e ∈ items L k st.at → Fair e)
  ScannedFrom k st b₀ b (Some p) = ((past : State) × (run R k st ≡ Ok past) × (past.at ≡ p)) × Marked (items L k st.at) source Fair Backing b₀ b

  -- the marks of an edge that was found, in front of others
  marked_found : (e : Edge) (backs : Bool) (st : State) (es : List A) (b₀ b : List ℕ) → length b₀ ≡ 4096 → one R st ≡ Ok e.next → Fair (L.item st.at)
      → Settled (Backing (L.item st.at)) (Had b₀ (L.item st.at)) backs → Marked es source Fair Backing (cond backs (set b₀ e.next.prev 1) b₀) b
      → Marked (L.item st.at ∷ es) source Fair Backing b₀ b
  marked_found e true st es b₀ b long reads fair settled m =
      let (is, small) = named st e.next reads in
      marked_set source Fair Backing (L.item st.at) es b₀ b (omega (arith, is)) fair (settled.0 refl)
      (subst (λ (v : ℕ). Marked es source Fair Backing (set b₀ v 1) b) is m)
  marked_found e false st es b₀ b long reads fair settled m = marked_more source Fair Backing (L.item st.at) es b₀ b fair (λ k. had b₀ _ (settled.1 refl k)) m

  behind_long : (backs : Bool) (v : ℕ) (b : List ℕ) → length b ≡ 4096 → length (cond backs (set b v 1) b) ≡ 4096
  behind_long true v b h = length-set b v 1 ∙ h
  behind_long false v b h = h

  -- the same of an edge and k behind it, which start at a position
  abbrev Behind : (k : ℕ) → State → (b₀ b : List ℕ) → Option ℕ → ℕ → Type 0
  Behind k st b₀ b None p = (past : State) → run R (suc k) st ≡ Ok past → ¬ ((a : A) → a ∈ items L k p → Fair a)
  Behind k st b₀ b (Some q) p = ((past : State) × (run R (suc k) st ≡ Ok past) × (past.at ≡ q)) × Marked (items L k p) source Fair Backing b₀ b

  -- a chain of them finds what a scan of all of them finds
  chained : (k : ℕ) (st : State) (b₀ b : List ℕ) (r : Option ℕ) → length b₀ ≡ 4096 → Chain FoundAt k st b₀ r b → ScannedFrom k st b₀ b r
  unfolding items
  chained zero st b₀ b r long past = ((st, run_none R st, refl), marked_none source Fair Backing b₀)
  chained (suc k) st b₀ b r long (odd f) = λ last e all.
      let (next, q) = run_next R (suc k) st (omega arith) e in f next q (all (L.item st.at) (Memᴰ.head refl))
  chained (suc k) st b₀ b r long (more {e = e} f c) =
      go r (subst (λ (p : ℕ). Behind k st (marks_behind e b₀) b r p) (moved st e.next f.0) (turned r (chained k e.next (marks_behind e b₀) b r (behind_long e.backs e.next.prev b₀ long) c)))
    where
      turned : (r : Option ℕ) → ScannedFrom k e.next (marks_behind e b₀) b r → Behind k st (marks_behind e b₀) b r e.next.at
      turned None d = λ last q. d last (rw sub-one at (sym (run_turn R (suc k) st (omega arith) f.0) ∙ q))
      turned (Some q) ((last, ran, at), m) = ((last, run_turn R (suc k) st (omega arith) f.0 ∙ rw sub-one ran, at), m)

      go : (r : Option ℕ) → Behind k st (marks_behind e b₀) b r (L.next st.at) → ScannedFrom (suc k) st b₀ b r
      go None d = λ last q all. d last q (λ a m. all a (Memᴰ.tail m))
      go (Some q) (ran, m) = (ran, marked_found e e.backs st _ b₀ b long f.0 f.1 f.2 m)

  pub chain_scanned : (k at : ℕ) (b₀ b : List ℕ) (r : Option ℕ) → length b₀ ≡ 4096 → Chain FoundAt k (start at) b₀ r b → Scanned R L k at source Fair Backing b₀ b r
  chain_scanned k at b₀ b None long c = chained k (start at) b₀ b None long c
  chain_scanned k at b₀ b (Some p) long c = chained k (start at) b₀ b (Some p) long c
