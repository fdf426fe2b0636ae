-- On a graph where no cycle passes through a cover edge pass n over the depth labels changes nothing: so the labels lie in layers, and the
-- count is at most the number of nodes. Assumes nothing.
use Prim.Native.Nat.{ℕ, zero, suc, ◌+◌, ◌-◌, ◌≤◌, ◌<◌}
use native.Mathlib.Nat.{le_refl, le_antisymm}
use native.Mathlib.Omega.{arith}
use mathlib.Core.Path.{◌≡◌, refl, sym, subst}
use mathlib.Core.Bool.{Bool, true, false, ◌||◌}
use mathlib.Core.Logic.{◌⊎◌, inl, inr, ⊎_elim}
use lib.Dec.{eqb, ltb}
use borrow.Author.Tests.{eqb-true, eq-eqb, ltb-true, ltb-false}
use Rattle.lists.specs.Lists.{◌∈◌, up_to}
use Rattle.lists.proofs.Tests.{by_test, clash, or_right}
use Rattle.lists.proofs.Lists.{all_false, how_many, how_many_le, how_many_more, how_many_some, up_to_length, ∈-up_to, up_to-∈}
use Rattle.rules.specs.Graph.{Graph, Cover, Closed}
use Rattle.rules.specs.Count.{count}
use Rattle.rules.specs.Walks.{Step, along, over, Walk, stay, onward, CoverCycle}
use Rattle.rules.specs.Depths.{Layered, depths, Still, unmoved}
use Rattle.rules.proofs.Walks.{Through, through_more, through_back}
use Rattle.rules.proofs.Depths.{Cause, own, by_hyper, by_cover, cause, deepen_hyper, deepen_cover, depths_rise, unmoved_still, still_layered}
use Rattle.rules.proofs.Layers.{layered_count}

module _ (g : Graph) where
  -- v rises past y in pass i + 1
  record Rises (i v y : ℕ) : Type 0 where
    was : depths g i v ≤ y
    is : y < depths g (suc i) v

  -- a node passed on the way to v, which rises past y in pass i + 1: the way led through a cover edge, or the node was not past y
  abbrev Way : ℕ → ℕ → ℕ → ℕ → Type 0
  Way i y p v = Through g p v ⊎ (Walk g p v × (depths g i p ≤ y))

  -- nodes passed so far, v among them, and their ways
  record Path (i v y : ℕ) (passed : ℕ → Bool) : Type 0 where
    here : passed v ≡ true
    way : (p : ℕ) → passed p ≡ true → Way i y p v

  -- one node more
  add : (ℕ → Bool) → ℕ → ℕ → Bool
  add passed t u = eqb u t || passed u

  more : (passed : ℕ → Bool) (t : ℕ) → t < g.nodes → passed t ≡ false → how_many passed (up_to g.nodes) < how_many (add passed t) (up_to g.nodes)
  unfolding add
  more passed t l e =
      how_many_more passed (λ u. eqb u t || passed u) (up_to g.nodes) (λ u m. or_right (eqb u t) (passed u)) t (up_to-∈ g.nodes l) e
      (rw (eq-eqb t t refl))

  module _ (closed : Closed g) where
    -- a cover edge leads to a node that was not passed, or closes a cycle
    new_over : {i v y : ℕ} {passed : ℕ → Bool} → Path i v y passed → (c : Cover) → c ∈ g.covers → c.source ≡ v
        → CoverCycle g ⊎ (passed c.target ≡ false)
    new_over {i} {v} {y} {passed} path c m s = by_test (passed c.target) (λ e. inl (go (path.way c.target e))) inr
      where
        go : Way i y c.target v → CoverCycle g
        go (inl z) = through_back (through_more z (over c m s refl))
        go (inr z) = record { edge = c; there = m; back = subst (λ (u : ℕ). Walk g c.target u) (sym s) z.0 }

    -- so does a step to a node that the pass before took past y
    new_along : {i v y t : ℕ} {passed : ℕ → Bool} → Path (suc i) v y passed → Step g v t → y < depths g (suc i) t → CoverCycle g ⊎ (passed t ≡ false)
    new_along {i} {v} {y} {t} {passed} path step h = by_test (passed t) (λ e. inl (go (path.way t e))) inr
      where
        go : Way (suc i) y t v → CoverCycle g
        go (inl z) = through_back (through_more z step)
        go (inr z) = absurd (omega (arith, z.1))

    -- a path goes on
    go_on : {i v y t k : ℕ} {passed : ℕ → Bool} → Path (suc i) v y passed → Rises i t k → ((p : ℕ) → Way (suc i) y p v → Way i k p t)
        → Path i t k (add passed t)
    unfolding add
    go_on {i} {t = t} {k} {passed} path rise on = record { here = rw (eq-eqb t t refl); way = way }
      where
        way : (p : ℕ) → (eqb p t || passed p) ≡ true → Way i k p t
        way p e =
            by_test (eqb p t)
            (λ q. let z = eqb-true p t q in inr (subst (λ (p : ℕ). Walk g p t) (sym z) stay, subst (λ (p : ℕ). depths g i p ≤ k) (sym z) rise.was))
            (λ q. on p (path.way p (rw q at e)))

    -- a path in pass i + 1 has passed that many nodes less than all, and one is still to come; or there is a cycle
    abbrev Short : ℕ → (ℕ → Bool) → Type 0
    Short i passed = CoverCycle g ⊎ (how_many passed (up_to g.nodes) + i < g.nodes)

    abbrev Bound : ℕ → Type 0
    Bound i = (v y : ℕ) → v < g.nodes → Rises i v y → (passed : ℕ → Bool) → Path i v y passed → Short i passed

    -- in the first pass, and in a later one
    bound_zero : Bound zero
    unfolding depths
    bound_zero v y l r passed path = go (cause g (depths g 0) v y r.is)
      where
        go : Cause g (depths g 0) v y → Short 0 passed
        go (own h) = absurd (omega arith)
        go (by_hyper h t m n s k) = absurd (omega arith)
        go (by_cover c m s k) =
            ⊎_elim inl
            (λ new.
            let a = more passed c.target (closed.cover m) new in
            let b = how_many_le (add passed c.target) (up_to g.nodes) in
            let e = up_to_length g.nodes in
            inr (omega arith))
            (new_over path c m s)

    bound_suc : (i : ℕ) → Bound i → Bound (suc i)
    unfolding depths
    bound_suc i before v y l r passed path = go (cause g (depths g (suc i)) v y r.is)
      where
        -- to a target t, past k in the pass before
        further : (t k : ℕ) → t < g.nodes → Rises i t k → ((p : ℕ) → Way (suc i) y p v → Way i k p t) → CoverCycle g ⊎ (passed t ≡ false) → Short (suc i) passed
        further t k lt rise on (inl z) = inl z
        further t k lt rise on (inr new) =
            ⊎_elim inl (λ h. inr (omega (arith, more passed t lt new))) (before t k lt rise (add passed t) (go_on path rise on))

        go : Cause g (depths g (suc i)) v y → Short (suc i) passed
        go (own h) = let z = r.was in absurd (omega arith)
        go (by_hyper h t m n s k) =
            let z = r.was in
            let q = rw s at (deepen_hyper g (depths g i) m n) in
            further t.node y (closed.hyper m n) (record { was = omega arith; is = k }) on (new_along path step k)
          where
            step : Step g v t.node
            step = along h t m n s refl

            on : (p : ℕ) → Way (suc i) y p v → Way i y p t.node
            on p (inl z) = inl (through_more z step)
            on p (inr z) = let q = depths_rise g i p in inr (onward z.0 step, omega (arith, z.1))
        go (by_cover c m s k) =
            let z = r.was in
            let q = rw s at (deepen_cover g (depths g i) m) in
            further c.target (y - 1) (closed.cover m) (record { was = omega arith; is = omega arith }) on (new_over path c m s)
          where
            on : (p : ℕ) → Way (suc i) y p v → Way i (y - 1) p c.target
            on p (inl z) = inl (through_more z (over c m s refl))
            on p (inr z) = inl (record { edge = c; there = m; before = subst (λ (u : ℕ). Walk g p u) (sym s) z.0; after = stay })

    bound : (i : ℕ) → Bound i
    bound zero = bound_zero
    bound (suc i) = bound_suc i (bound i)

    -- a pass from the n-th on that changes a label shows a cycle
    rise_cycle : (i v : ℕ) → g.nodes ≤ suc i → v < g.nodes → depths g i v < depths g (suc i) v → CoverCycle g
    rise_cycle i v h l k =
        ⊎_elim (λ z. z) (λ b. absurd (omega (arith, some)))
        (bound i v (depths g i v) l (record { was = le_refl (depths g i v); is = k }) (λ u. eqb u v) path)
      where
        some : 0 < how_many (λ u. eqb u v) (up_to g.nodes)
        some = how_many_some (λ u. eqb u v) (up_to g.nodes) v (up_to-∈ g.nodes l) (eq-eqb v v refl)

        path : Path i v (depths g i v) (λ u. eqb u v)
        path = record {
          here = eq-eqb v v refl;
          way = λ p e.
              let z = eqb-true p v e in
              inr (subst (λ (p : ℕ). Walk g p v) (sym z) stay, subst (λ (p : ℕ). depths g i p ≤ depths g i v) (sym z) (le_refl (depths g i v)));
        }

    -- so it is decided: pass n changes nothing, or there is a cycle
    pub still_or_cycle : (i : ℕ) → g.nodes ≤ suc i → Still g i ⊎ CoverCycle g
    unfolding unmoved
    still_or_cycle i h =
        by_test (unmoved g i) (λ e. inl (unmoved_still g i e)) λ e.
        let (v, m, f) = all_false (λ v. eqb (depths g (suc i) v) (depths g i v)) (up_to g.nodes) e in
        let k = depths_rise g i v in
        let rises : depths g i v < depths g (suc i) v = by_test (ltb (depths g i v) (depths g (suc i) v))
        (ltb-true (depths g i v) (depths g (suc i) v))
        (λ z. clash (eq-eqb (depths g (suc i) v) (depths g i v) (le_antisymm (ltb-false (depths g i v) (depths g (suc i) v) z) k)) f) in
        inr (rise_cycle i v h (∈-up_to g.nodes m) rises)

    pub free_still : ¬ CoverCycle g → (i : ℕ) → g.nodes ≤ suc i → Still g i
    free_still free i h = ⊎_elim (λ s. s) (λ z. absurd (free z)) (still_or_cycle i h)

  pub free_layered : Closed g → ¬ CoverCycle g → Layered g (depths g g.nodes)
  free_layered closed free = still_layered g closed g.nodes (free_still closed free g.nodes (omega arith))

  -- so the count of a graph without a cycle through a cover edge is at most the number of nodes
  pub free_count : Closed g → ¬ CoverCycle g → count g ≤ g.nodes
  free_count closed free = layered_count g (depths g g.nodes) closed (free_layered closed free)
