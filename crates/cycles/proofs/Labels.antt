-- Depth labels that are written over: what a raise keeps, what two passes make, and that labels which rise in pass n show a cycle through a
-- cover edge. Assumes nothing.
use Prim.Native.Nat.{ℕ, suc, ◌+◌, ◌-◌, ◌*◌, ◌≤◌, ◌<◌}
use mathlib.Core.Bool.{Bool, true, false, true≢false}
use mathlib.Core.List.{List}
use mathlib.Core.Logic.{⊎_elim}
use mathlib.Core.Path.{◌≡◌, refl, sym, subst, ◌∙◌}
use lib.Dec.{ltb}
use lib.ListN.{length, set, replicate, length-set, length-replicate}
use lib.Seq.{get_or-set_same, get_or-set_other}
use borrow.Author.Tests.{ltb-true, ltb-false}
use native.Mathlib.Decide.{ℕ_discrete}
use native.Mathlib.Nat.{le_refl, le_trans}
use native.Mathlib.Omega.{arith}
use Rattle.lists.specs.Lists.{◌∈◌}
use Rattle.lists.proofs.Tests.{by_test}
use Rattle.wire.specs.Layout.{items, Sound}
use Rattle.wire.proofs.Parts.{∈-items, sound_at}
use Rattle.rules.specs.Graph.{Graph, Target, Hyper, Cover, Closed}
use Rattle.rules.specs.Walks.{CoverCycle}
use Rattle.rules.specs.Depths.{Layered, depths, Still}
use Rattle.rules.proofs.Depths.{Cause, own, by_hyper, by_cover, cause, still_layered}
use Rattle.rules.proofs.Cycles.{still_or_cycle}
use Rattle.rules.proofs.Walks.{layered_free}
use Rattle.graph.specs.Layouts.{target_layout}
use Rattle.cycles.specs.Labels.{label, Within, Deepest, HyperFalls, CoverFalls, Deeper, Pass}
use Rattle.lists.proofs.Zeros.{zeros_at}

-- the targets of a sound hyperedge are nodes
pub target_named : (s : List ℕ) (n k at : ℕ) → Sound (target_layout s n) k at → (t : Target) → t ∈ items (target_layout s n) k at → t.node < n
target_named s n k at sound t m =
    let (i, l, e) = ∈-items (target_layout s n) k at m in
    let ok = sound_at (target_layout s n) i l sound in
    rw e ok.named

-- ---- a raise

pub raise_here : (b : List ℕ) (v k : ℕ) → v < length b → label (set b v k) v ≡ k
raise_here b v k l = get_or-set_same b v k 0 l

-- no label falls
pub raise_rise : (b : List ℕ) (v k : ℕ) → v < length b → label b v ≤ k → (u : ℕ) → label b u ≤ label (set b v k) u
raise_rise b v k l h u = go (ℕ_discrete u v)
  where
    go : Dec (u ≡ v) → label b u ≤ label (set b v k) u
    go (yes e) = rw (e, raise_here b v k l) h
    go (no e) = rw (get_or-set_other b v u k 0 e) (le_refl (label b u))

-- and no label is above what each was to be below
pub raise_under : (b : List ℕ) (v k : ℕ) (d : ℕ → ℕ) (u : ℕ) → v < length b → k ≤ d v → label b u ≤ d u → label (set b v k) u ≤ d u
raise_under b v k d u l h o = go (ℕ_discrete u v)
  where
    go : Dec (u ≡ v) → label (set b v k) u ≤ d u
    go (yes e) = rw (e, raise_here b v k l) h
    go (no e) = rw (get_or-set_other b v u k 0 e) o

module _ {A : Type 0} (n : ℕ) (edges : List A) (Falls : (low high : ℕ → ℕ) → A → Type 0) where
  -- a pass that is under way
  pub record Risen (b₀ b : List ℕ) (moved : Bool) : Type 0 where
    pub same_length : length b ≡ length b₀
    pub rise : (v : ℕ) → label b₀ v ≤ label b v
    pub under : (d : ℕ → ℕ) → ((e : A) → e ∈ edges → Falls d d e) → ((v : ℕ) → v < n → label b₀ v ≤ d v) → (v : ℕ) → v < n → label b v ≤ d v
    pub still : moved ≡ false → b ≡ b₀
    pub went : moved ≡ true → (v : ℕ) × (v < n) × (label b₀ v < label b v)

  pub risen_none : (b : List ℕ) → Risen b b false
  risen_none b = record {
    same_length = refl;
    rise = λ v. le_refl (label b v);
    under = λ d f o. o;
    still = λ e. refl;
    went = λ e. absurd (true≢false (sym e));
  }

  pub risen_more : {b₀ b : List ℕ} {moved : Bool} → Risen b₀ b moved → (v k : ℕ) → v < n → v < length b₀ → label b v < k
      → ((d : ℕ → ℕ) → ((e : A) → e ∈ edges → Falls d d e) → ((u : ℕ) → u < n → label b u ≤ d u) → k ≤ d v) → Risen b₀ (set b v k) true
  risen_more {b₀} {b} r v k named inside h most =
      let l : v < length b = omega (arith, r.same_length) in
      let up = raise_rise b v k l (omega arith) in
      record {
        same_length = length-set b v k ∙ r.same_length;
        rise = λ u. le_trans (r.rise u) (up u);
        under = λ d f o u lu. raise_under b v k d u l (most d f (r.under d f o)) (r.under d f o u lu);
        still = λ e. absurd (true≢false e);
        went = λ e. (v, named, rw (raise_here b v k l) (omega (arith, r.rise v)));
      }

-- a cover edge whose source is not below its target: the source is raised
module _ {n : ℕ} {cs : List Cover} {b₀ b : List ℕ} {moved : Bool} (r : Risen n cs CoverFalls b₀ b moved) (c : Cover) (m : c ∈ cs)
    (source : c.source < n) (target : c.target < n) (long : n ≤ length b₀) (h : label b c.source ≤ label b c.target) where
  inside : c.source < length b
  inside = omega (arith, r.same_length)

  pub cover_raised : Risen n cs CoverFalls b₀ (set b c.source (label b c.target + 1)) true
  cover_raised = risen_more n cs CoverFalls r c.source (label b c.target + 1) source (omega arith) (omega arith)
      (λ d f o. omega (arith, f c m, o c.target target))

  pub cover_falls : CoverFalls (label b₀) (label (set b c.source (label b c.target + 1))) c
  cover_falls = rw (raise_here b c.source (label b c.target + 1) inside) (omega (arith, r.rise c.target))

  pub cover_stays : (e : Cover) → CoverFalls (label b₀) (label b) e → CoverFalls (label b₀) (label (set b c.source (label b c.target + 1))) e
  cover_stays e f = omega (arith, raise_rise b c.source (label b c.target + 1) inside (omega arith) e.source)

  -- and is one more at most
  pub cover_within : {i k : ℕ} → 0 < i → ((v : ℕ) → v < n → label b v + i ≤ k) → (v : ℕ) → v < n
      → label (set b c.source (label b c.target + 1)) v + (i - 1) ≤ k
  cover_within {i} {k} some o v l = go (ℕ_discrete v c.source)
    where
      go : Dec (v ≡ c.source) → label (set b c.source (label b c.target + 1)) v + (i - 1) ≤ k
      go (yes e) = rw (e, raise_here b c.source (label b c.target + 1) inside) (omega (arith, o c.target target))
      go (no e) = rw (get_or-set_other b c.source v (label b c.target + 1) 0 e) (omega (arith, o v l))

-- a hyperedge whose source is less deep than its targets: the source is taken down to them
module _ {n : ℕ} {hs : List Hyper} {b₀ b : List ℕ} {moved : Bool} (r : Risen n hs HyperFalls b₀ b moved) (h : Hyper) (m : h ∈ hs)
    (source : h.source < n) (targets : (t : Target) → t ∈ h.targets → t.node < n) (long : n ≤ length b₀) {deep : ℕ} (most : Deepest (label b) h.targets deep) where
  hyper_inside : h.source < length b
  hyper_inside = omega (arith, r.same_length)

  -- no raise is needed
  pub hyper_kept : deep ≤ label b h.source → HyperFalls (label b₀) (label b) h
  hyper_kept l t k = omega (arith, r.rise t.node, most.above t k)

  module _ (less : label b h.source < deep) where
    pub hyper_raised : Risen n hs HyperFalls b₀ (set b h.source deep) true
    hyper_raised = risen_more n hs HyperFalls r h.source deep source (omega arith) less
        (λ d f o. most.least (d h.source) (λ t k. le_trans (o t.node (targets t k)) (f h m t k)))

    pub hyper_falls : HyperFalls (label b₀) (label (set b h.source deep)) h
    hyper_falls t k = rw (raise_here b h.source deep hyper_inside) (omega (arith, r.rise t.node, most.above t k))

    pub hyper_stays : (e : Hyper) → HyperFalls (label b₀) (label b) e → HyperFalls (label b₀) (label (set b h.source deep)) e
    hyper_stays e f t k = le_trans (f t k) (raise_rise b h.source deep hyper_inside (omega arith) e.source)

-- all edges were passed
pub deeper_all : {A : Type 0} {n : ℕ} {edges : List A} {Falls : (low high : ℕ → ℕ) → A → Type 0} {b₀ b : List ℕ} {moved : Bool}
    → ((e : A) → e ∈ edges → Falls (label b₀) (label b) e) → Risen n edges Falls b₀ b moved → Deeper n edges Falls b₀ b moved
deeper_all each r = record { same_length = r.same_length; rise = r.rise; each = each; under = r.under; still = r.still; went = r.went }

-- ---- a pass over the hyperedges, and one over the cover edges

module _ {g : Graph} {b₀ b₁ b₂ : List ℕ} {along over : Bool} (hypers : Deeper g.nodes g.hypers HyperFalls b₀ b₁ along)
    (covers : Deeper g.nodes g.covers CoverFalls b₁ b₂ over) where
  both : (moved : Bool) → (moved ≡ false → b₂ ≡ b₀) → (moved ≡ true → (v : ℕ) × (v < g.nodes) × (label b₀ v < label b₂ v)) → Pass g b₀ b₂ moved
  both moved still went = record {
    same_length = covers.same_length ∙ hypers.same_length;
    rise = λ v. le_trans (hypers.rise v) (covers.rise v);
    hyper = λ h m t k. le_trans (hypers.each h m t k) (covers.rise h.source);
    cover = λ c m. omega (arith, hypers.rise c.target, covers.each c m);
    under = λ d layered o.
        covers.under d (λ c m. layered.cover m) (hypers.under d (λ h m t k. layered.hyper m k) o);
    still = still;
    went = went;
  }

  pub pass_along : along ≡ true → Pass g b₀ b₂ true
  pass_along e = both true (λ q. absurd (true≢false q)) λ q. let (v, l, h) = hypers.went e in (v, l, omega (arith, covers.rise v))

  pub pass_over : along ≡ false → Pass g b₀ b₂ over
  pass_over e = both over (λ q. covers.still q ∙ hypers.still e) λ q.
      let (v, l, h) = covers.went q in (v, l, subst (λ (b : List ℕ). label b v < label b₂ v) (hypers.still e) h)

-- labels stay within a bound along hyperedges
pub hypers_within : {n : ℕ} {hs : List Hyper} {b₀ b : List ℕ} {moved : Bool} → Deeper n hs HyperFalls b₀ b moved → (m : ℕ) → Within n b₀ m → Within n b m
hypers_within d m o = d.under (λ v. m) (λ h k t l. le_refl m) o

-- ---- passes one after another

module _ (g : Graph) (closed : Closed g) where
  -- so many passes give at least the depths of as many
  pub pass_depths : (i : ℕ) {b₀ b : List ℕ} {moved : Bool} → ((v : ℕ) → v < g.nodes → depths g i v ≤ label b₀ v) → Pass g b₀ b moved
      → (v : ℕ) → v < g.nodes → depths g (suc i) v ≤ label b v
  unfolding depths
  pass_depths i {b₀} {b} low d v l =
      by_test (ltb (label b v) (depths g (suc i) v)) (λ e. absurd (go (cause g (depths g i) v (label b v) (ltb-true (label b v) (depths g (suc i) v) e))))
      (ltb-false (label b v) (depths g (suc i) v))
    where
      go : Cause g (depths g i) v (label b v) → ⊥
      go (own h) = omega (arith, low v l, d.rise v)
      go (by_hyper h t m n s k) = omega (arith, low t.node (closed.hyper m n), rw s at (d.hyper h m t n))
      go (by_cover c m s k) = omega (arith, low c.target (closed.cover m), rw s at (d.cover c m))

  -- a pass in which no label rises leaves no cycle
  pub still_free : {b₀ b : List ℕ} {moved : Bool} → Pass g b₀ b moved → moved ≡ false → ¬ CoverCycle g
  still_free {b₀} {b} d e =
      let same = d.still e in
      layered_free {g = g} {d = label b₀} (record {
        hyper = λ {h} {t} m n. subst (λ (x : List ℕ). label b₀ t.node ≤ label x h.source) same (d.hyper h m t n);
        cover = λ {c} m. subst (λ (x : List ℕ). label b₀ c.target < label x c.source) same (d.cover c m);
      })

  -- and labels below every layering that rise in pass n or later show one
  pub risen_cycle : (i : ℕ) → g.nodes ≤ suc i → {b₀ b : List ℕ} {moved : Bool} → ((v : ℕ) → v < g.nodes → depths g i v ≤ label b₀ v)
      → ((d : ℕ → ℕ) → Layered g d → (v : ℕ) → v < g.nodes → label b₀ v ≤ d v) → Pass g b₀ b moved → moved ≡ true → CoverCycle g
  risen_cycle i h {b₀} {b} low high d e = ⊎_elim (λ s. absurd (settled s)) (λ z. z) (still_or_cycle g closed i h)
    where
      settled : Still g i → ⊥
      settled s =
          let z = still_layered g closed i s in
          let (v, l, k) = d.went e in
          omega (arith, low v l, d.under (depths g i) z (high (depths g i) z) v l)

-- the labels after so many passes: at least the depths of as many, and below every layering
pub record Labelled (g : Graph) (passes : ℕ) (b : List ℕ) : Type 0 where
  pub long : length b ≡ 4096
  pub within : Within g.nodes b (passes * 4096)
  pub low : (v : ℕ) → v < g.nodes → depths g passes v ≤ label b v
  pub high : (d : ℕ → ℕ) → Layered g d → (v : ℕ) → v < g.nodes → label b v ≤ d v

pub labelled_none : (g : Graph) → Labelled g 0 (replicate 4096 0)
unfolding depths
labelled_none g = record {
  long = length-replicate {A = ℕ} 4096 0;
  within = λ v l. omega (arith, zeros_at 4096 v);
  low = λ v l. omega arith;
  high = λ d layered v l. omega (arith, zeros_at 4096 v);
}

pub labelled_more : (g : Graph) → Closed g → {i c : ℕ} {b₀ b : List ℕ} {moved : Bool} → Labelled g i b₀ → Pass g b₀ b moved → c ≤ 4096
    → ((m : ℕ) → Within g.nodes b₀ m → Within g.nodes b (m + c)) → Labelled g (suc i) b
labelled_more g closed {i} k d few more = record {
  long = d.same_length ∙ k.long;
  within = λ v l. omega (arith, more (i * 4096) k.within v l);
  low = pass_depths g closed i k.low d;
  high = λ d' layered. d.under d' layered (k.high d' layered);
}
