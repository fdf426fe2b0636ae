-- Depth labels: what makes a label grow in a pass, and that labels which a pass leaves as they are lie in layers. Assumes nothing.
use Prim.Native.Nat.{ℕ, suc, ◌≤◌, ◌<◌}
use native.Mathlib.Nat.{le_trans, le-max_left, le-max_right}
use native.Mathlib.Omega.{arith}
use mathlib.Core.Path.{◌≡◌, refl}
use mathlib.Core.Bool.{Bool, true, false, cond}
use mathlib.Core.List.Memᴰ
use mathlib.Core.List.{List, [], ◌∷◌}
use lib.Dec.{eqb, ltb}
use borrow.Author.Tests.{eqb-true, eq-eqb, ltb-true, ltb-false}
use Rattle.lists.specs.Lists.{◌∈◌, up_to}
use Rattle.lists.proofs.Tests.{by_test}
use Rattle.lists.proofs.Lists.{all_true, up_to-∈}
use Rattle.rules.specs.Graph.{Graph, Target, Hyper, Cover, Closed}
use Rattle.rules.specs.Depths.{Layered, largest, hyper_depth, cover_depth, deepen, depths, Still, unmoved}

-- ---- the largest of a list

module _ {A : Type 0} (f : A → ℕ) where
  largest-≥ : (l : List A) {a : A} → a ∈ l → f a ≤ largest f l
  unfolding largest
  largest-≥ [] m = absurd (Memᴰ.not-nil m)
  largest-≥ (b ∷ l) (Memᴰ.head e) = rw e (le-max_left (f b) (largest f l))
  largest-≥ (b ∷ l) (Memᴰ.tail m) = le_trans (largest-≥ l m) (le-max_right (f b) (largest f l))

  <-largest : (l : List A) (y : ℕ) → y < largest f l → (a : A) × (a ∈ l) × (y < f a)
  unfolding largest
  <-largest [] y h = absurd (omega arith)
  <-largest (b ∷ l) y h =
      let rest = <-largest l y in
      by_test (ltb y (f b)) (λ e. (b, Memᴰ.head refl, ltb-true y (f b) e))
      (λ e. let q = ltb-false y (f b) e in let r = rest (omega arith) in (r.0, Memᴰ.tail r.1, r.2))

-- ---- a pass

module _ (g : Graph) (x : ℕ → ℕ) where
  pub deepen_own : (v : ℕ) → x v ≤ deepen g x v
  unfolding deepen
  deepen_own v = omega arith

  pub deepen_hyper : {h : Hyper} {t : Target} → h ∈ g.hypers → t ∈ h.targets → x t.node ≤ deepen g x h.source
  unfolding deepen
  deepen_hyper {h} {t} m n =
      let a : hyper_depth x h.source h ≡ largest (λ (t : Target). x t.node) h.targets = rw (eq-eqb h.source h.source refl) in
      let p = largest-≥ (λ (t : Target). x t.node) h.targets n in
      let q = largest-≥ (hyper_depth x h.source) g.hypers m in
      omega arith

  pub deepen_cover : {c : Cover} → c ∈ g.covers → suc (x c.target) ≤ deepen g x c.source
  unfolding deepen
  deepen_cover {c} m =
      let a : cover_depth x c.source c ≡ suc (x c.target) = rw (eq-eqb c.source c.source refl) in
      let q = largest-≥ (cover_depth x c.source) g.covers m in
      omega arith

  -- what makes a label larger than y
  pub data Cause (v y : ℕ) : Type 0 where
    own : y < x v → Cause v y
    by_hyper : (h : Hyper) (t : Target) → h ∈ g.hypers → t ∈ h.targets → h.source ≡ v → y < x t.node → Cause v y
    by_cover : (c : Cover) → c ∈ g.covers → c.source ≡ v → y ≤ x c.target → Cause v y

  -- an edge that gives v something is one of v's
  gives : {y : ℕ} (b : Bool) (n : ℕ) → y < cond b n 0 → (b ≡ true) × (y < n)
  gives true n h = (refl, h)
  gives false n h = absurd (omega arith)

  pub cause : (v y : ℕ) → y < deepen g x v → Cause v y
  unfolding deepen
  cause v y h =
      by_test (ltb y (x v)) (λ e. own (ltb-true y (x v) e)) λ e.
      let no_own = ltb-false y (x v) e in
      by_test (ltb y (largest (hyper_depth x v) g.hypers))
      (λ e.
      let (h, m, q) = <-largest (hyper_depth x v) g.hypers y (ltb-true y (largest (hyper_depth x v) g.hypers) e) in
      let (s, l) = gives (eqb h.source v) (largest (λ (t : Target). x t.node) h.targets) q in
      let (t, n, k) = <-largest (λ (t : Target). x t.node) h.targets y l in
      by_hyper h t m n (eqb-true h.source v s) k)
      (λ e.
      let no_hyper = ltb-false y (largest (hyper_depth x v) g.hypers) e in
      let (c, m, q) = <-largest (cover_depth x v) g.covers y (omega arith) in
      let (s, l) = gives (eqb c.source v) (suc (x c.target)) q in
      by_cover c m (eqb-true c.source v s) (omega arith))

-- ---- the labels

module _ (g : Graph) where
  pub depths_rise : (i v : ℕ) → depths g i v ≤ depths g (suc i) v
  unfolding depths
  depths_rise i v = deepen_own g (depths g i) v

  -- the test of a pass
  pub unmoved_still : (i : ℕ) → unmoved g i ≡ true → Still g i
  unfolding unmoved
  unmoved_still i e v l =
      eqb-true (depths g (suc i) v) (depths g i v)
      (all_true (λ v. eqb (depths g (suc i) v) (depths g i v)) (up_to g.nodes) e v (up_to-∈ g.nodes l))

  -- labels that a pass leaves as they are lie in layers
  pub still_layered : Closed g → (i : ℕ) → Still g i → Layered g (depths g i)
  unfolding depths
  still_layered closed i still = record {
    hyper = λ m n. rw (still _ (closed.hyper_source m)) at (deepen_hyper g (depths g i) m n);
    cover = λ m. rw (still _ (closed.cover_source m)) at (deepen_cover g (depths g i) m);
  }
