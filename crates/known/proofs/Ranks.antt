-- Why ranks ask that no cycle passes through a cover edge: T12's true values have no ranks at all with which they are accepted.
-- Assumes nothing.
use Prim.Native.Nat.{ℕ, ◌<◌}
use mathlib.Core.List.Memᴰ
use mathlib.Core.List.{List}
use mathlib.Core.Path.{◌≡◌, refl, ap}
use native.Mathlib.Omega.{arith}
use Rattle.lists.specs.Lists.{any, all, up_to, first_from}
use Rattle.lists.proofs.Places.{first}
use Rattle.value.specs.Value.{fin}
use Rattle.rules.specs.Graph.{Target, Hyper, Cover}
use Rattle.rules.specs.Rounds.{rounds, round, best, worst, covered}
use Rattle.rules.specs.Count.{count, unchanged}
use Rattle.graph.specs.Stored.{ruled}
use Rattle.reduction.specs.Built.{to, hyper}
use Rattle.support.specs.Claims.{Support, by_hyper, by_cover, Accepts}
use Rattle.known.specs.Table.{T12}

module _ (rank : ℕ → ℕ) where
  -- the sources of its hyperedges
  source_is : {h : Hyper} {v : ℕ} {ts : List Target} → h ≡ hyper v ts → h.source ≡ v
  source_is e = ap (λ (h : Hyper). h.source) e

  -- node 0 is supported by its cover edge alone
  zero_after : Support (ruled T12) (rounds (ruled T12) 4) rank 0 → rank 1 < rank 0
  zero_after (by_hyper h (Memᴰ.head e) s w f) = let q = source_is e in absurd (omega arith)
  zero_after (by_hyper h (Memᴰ.tail (Memᴰ.head e)) s w f) = let q = source_is e in absurd (omega arith)
  zero_after (by_hyper h (Memᴰ.tail (Memᴰ.tail (Memᴰ.head e))) s w f) = let q = source_is e in absurd (omega arith)
  zero_after (by_hyper h (Memᴰ.tail (Memᴰ.tail (Memᴰ.tail m))) s w f) = elim m [ ]
  zero_after (by_cover c (Memᴰ.head e) s o q) = rw (ap (λ (c : Cover). c.target) e) at q
  zero_after (by_cover c (Memᴰ.tail m) s o q) = elim m [ ]

  -- and node 1 by its second hyperedge, since the first gives 5
  one_after : Support (ruled T12) (rounds (ruled T12) 4) rank 1 → rank 0 < rank 1
  unfolding rounds round best worst covered any
  one_after (by_hyper h (Memᴰ.head e) s w f) =
      let q : fin 5 ≡ fin 0 = rw e at w in let z : ◌≡◌ {A = ℕ} 5 0 = cc in absurd (omega arith)
  one_after (by_hyper h (Memᴰ.tail (Memᴰ.head e)) s w f) = f (to 0 0) (rw e first)
  one_after (by_hyper h (Memᴰ.tail (Memᴰ.tail (Memᴰ.head e))) s w f) = let q = source_is e in absurd (omega arith)
  one_after (by_hyper h (Memᴰ.tail (Memᴰ.tail (Memᴰ.tail m))) s w f) = elim m [ ]
  one_after (by_cover c (Memᴰ.head e) s o q) = let p = ap (λ (c : Cover). c.source) e in absurd (omega arith)
  one_after (by_cover c (Memᴰ.tail m) s o q) = elim m [ ]

  pub T12-no_ranks : ¬ Accepts (ruled T12) (rounds (ruled T12) (count (ruled T12))) rank
  unfolding rounds round best worst covered count unchanged first_from any all up_to
  T12-no_ranks ok = let a = zero_after (ok.supported 0 (omega arith) refl) in let b = one_after (ok.supported 1 (omega arith) refl) in omega arith
