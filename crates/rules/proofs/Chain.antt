-- The chain: a change comes from a change one round earlier. Assumes nothing.
use mathlib.Core.Path.{◌≡◌}
use mathlib.Core.Bool.{Bool, true, false}
use Prim.Native.Nat.{ℕ, suc, ◌+◌, ◌-◌, ◌≤◌}
use native.Mathlib.Omega.{arith}
use Rattle.lists.proofs.Tests.{by_test, clash}
use Rattle.lists.specs.Lists.{◌∈◌, all}
use Rattle.value.specs.Value.{plus, at_most}
use Rattle.rules.specs.Graph.{Graph, Target, Hyper, Cover}
use Rattle.rules.specs.Rounds.{cover_holds, rounds}
use Rattle.value.proofs.Values.{Falls, plus-≼, ≼-plus, meets_falls}
use Rattle.lists.proofs.Lists.{all_true, all_false}
use Rattle.rules.proofs.Reasons.{Reason, by_cover, by_hyper, reason, at_most_lem}

-- node v falls to k from round i to round i + 1: its value is at most k in round i + 1, and was not in round i.
-- The value itself is one such k: a node whose value changes falls to it (`falls`)
abbrev pub Change : Graph → ℕ → ℕ → ℕ → Type 0
Change g i v k = Falls (rounds g i v) (rounds g (suc i) v) k

-- what a change of v to k from round i + 1 to round i + 2 comes from: a target of a hyperedge of v fell, to at most k less its weight;
-- or a cover edge of v holds under round i + 1 and did not under round i, and its target fell
pub data Step (g : Graph) (i v k : ℕ) : Type 0 where
  hyper_step : (h : Hyper) (t : Target) (j : ℕ) → h ∈ g.hypers → t ∈ h.targets → h.source ≡ v → t.weight + j ≤ k
      → Change g i t.node j → Step g i v k
  cover_step : (c : Cover) (j : ℕ) → c ∈ g.covers → c.source ≡ v → cover_holds (rounds g i) c ≡ false → cover_holds (rounds g (suc i)) c ≡ true
      → Change g i c.target j → Step g i v k

pub chain : (g : Graph) (i v k : ℕ) → Change g (suc i) v k → Step g i v k
unfolding rounds
chain g i v k f = go (reason g (rounds g (suc i)) v f.now)
  where
    go : Reason g (rounds g (suc i)) v k → Step g i v k
    go (by_cover c m s e) = by_test (cover_holds (rounds g i) c) held new
      where
        held : cover_holds (rounds g i) c ≡ true → Step g i v k
        held q = absurd (f.not_before (at_most_lem g (rounds g i) v (by_cover c m s q)))

        new : cover_holds (rounds g i) c ≡ false → Step g i v k
        new q =
            let r = meets_falls c.bound (rounds g (suc i) c.target) (rounds g i c.target) e q in
            cover_step c r.0 m s q e r.1
    go (by_hyper h m s a) = by_test (all low h.targets) held new
      where
        low : Target → Bool
        low t = at_most (plus t.weight (rounds g i t.node)) k

        held : all low h.targets ≡ true → Step g i v k
        held q = absurd (f.not_before (at_most_lem g (rounds g i) v (by_hyper h m s (λ t n. record { test = all_true low h.targets q t n }))))

        new : all low h.targets ≡ false → Step g i v k
        new q =
            let r = all_false low h.targets q in
            let t = r.0 in
            let p = ≼-plus t.weight (rounds g (suc i) t.node) (a t r.1) in
            hyper_step h t (k - t.weight) m r.1 s (omega arith)
            (record { now = p.1; not_before = λ b. clash (plus-≼ t.weight (rounds g i t.node) b (omega arith)).test r.2 })
