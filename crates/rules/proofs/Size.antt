-- How large a finite value can be: at most the heaviest weight for each other node. Assumes nothing.
use mathlib.Core.Path.{◌≡◌, refl}
use mathlib.Core.Bool.{true, false}
use mathlib.Core.List.Memᴰ
use mathlib.Core.List.{List, [], ◌∷◌}
use Prim.Native.Nat.{ℕ, zero, suc, ◌+◌, ◌-◌, ◌*◌, ◌≤◌, ◌<◌}
use native.Mathlib.Nat.{mul-le-mul_right, suc-mul, le-max_left, le-max_right, le_trans}
use native.Mathlib.Omega.{arith}
use Rattle.lists.proofs.Tests.{by_test, clash}
use Rattle.lists.specs.Lists.{◌∈◌, up_to}
use Rattle.value.specs.Value.{finite, ◌≼◌}
use Rattle.rules.specs.Graph.{Graph, Target, Hyper, Closed, heaviest_of, heaviest}
use Rattle.rules.specs.Rounds.{rounds}
use Rattle.value.proofs.Values.{≼-up, finite-≼, ≼-finite, ≼-plus, plus-≼}
use Rattle.lists.proofs.Lists.{how_many, how_many_le, how_many_mono, how_many_more, how_many_some, up_to_length, ∈-up_to, up_to-∈}
use Rattle.rules.proofs.Order.{rounds_fall}
use Rattle.rules.proofs.Reasons.{Reason, by_cover, by_hyper, reason, at_most_lem}

-- no target weighs more than w
pub record Light (g : Graph) (w : ℕ) : Type 0 where
  pub weight : {h : Hyper} {t : Target} → h ∈ g.hypers → t ∈ h.targets → t.weight ≤ w

-- how many nodes are finite in round i
pub finites : Graph → ℕ → ℕ
finites g i = how_many (λ v. finite (rounds g i v)) (up_to g.nodes)

finites_le : (g : Graph) (i : ℕ) → finites g i ≤ g.nodes
unfolding finites
finites_le g i = rw up_to_length at (how_many_le (λ v. finite (rounds g i v)) (up_to g.nodes))

finites_some : (g : Graph) (i v : ℕ) → v < g.nodes → finite (rounds g i v) ≡ true → 0 < finites g i
unfolding finites
finites_some g i v l e = how_many_some (λ v. finite (rounds g i v)) (up_to g.nodes) v (up_to-∈ g.nodes l) e

-- w for each of the nodes before the last, and w once more
one_more : (w m a : ℕ) → a ≤ w → 0 < m → a + (m - 1) * w ≤ m * w
one_more w zero a h l = elim l [ ]
one_more w (suc m) a h l = let e : suc m - 1 ≡ m = omega arith in rw (suc-mul, e) (omega arith)

module _ (g : Graph) (closed : Closed g) (w : ℕ) (light : Light g w) where
  stays : (i v : ℕ) → v < g.nodes → finite (rounds g i v) ≡ true → finite (rounds g (suc i) v) ≡ true
  stays i v l e = ≼-finite ((rounds_fall g closed i v l).carries (finite-≼ (rounds g i v) e).1)

  finites_mono : (i : ℕ) → finites g i ≤ finites g (suc i)
  unfolding finites
  finites_mono i =
      how_many_mono (λ v. finite (rounds g i v)) (λ v. finite (rounds g (suc i) v)) (up_to g.nodes) (λ v m e. stays i v (∈-up_to g.nodes m) e)

  finites_more : (i v : ℕ) → v < g.nodes → finite (rounds g i v) ≡ false → finite (rounds g (suc i) v) ≡ true → finites g i < finites g (suc i)
  unfolding finites
  finites_more i v l =
      how_many_more (λ v. finite (rounds g i v)) (λ v. finite (rounds g (suc i) v)) (up_to g.nodes) (λ v m e. stays i v (∈-up_to g.nodes m) e)
      v (up_to-∈ g.nodes l)

  -- each finite value of round i is at most w for each other finite node
  abbrev Small : ℕ → Type 0
  Small i = (v : ℕ) → v < g.nodes → finite (rounds g i v) ≡ true → rounds g i v ≼ ((finites g i - 1) * w)

  -- then what follows for a node is at most w for each finite node
  newly : {v k : ℕ} (i : ℕ) → Small i → Reason g (rounds g i) v k → Reason g (rounds g i) v (finites g i * w)
  newly i small (by_cover c m s e) = by_cover c m s e
  newly i small (by_hyper h m s a) = by_hyper h m s λ t n.
      let l = closed.hyper m n in
      let e = ≼-finite (≼-plus t.weight (rounds g i t.node) (a t n)).1 in
      plus-≼ t.weight (rounds g i t.node) (small t.node l e) (one_more w (finites g i) t.weight (light.weight m n) (finites_some g i t.node l e))

  -- a node that was finite only falls, and one that is new makes one finite node more
  pub value_by_finites : (i : ℕ) → Small i
  unfolding rounds
  value_by_finites zero v l e = clash e refl
  value_by_finites (suc i) v l e =
      let small = value_by_finites i in
      by_test (finite (rounds g i v))
      (λ f. let m = finites_mono i in ≼-up ((rounds_fall g closed i v l).carries (small v l f)) (mul-le-mul_right w (omega arith)))
      (λ f.
      let m = finites_more i v l f e in
      let r = reason g (rounds g i) v (finite-≼ (rounds g (suc i) v) e).1 in
      ≼-up (at_most_lem g (rounds g i) v (newly i small r)) (mul-le-mul_right w (omega arith)))

  -- so at most w for each other node
  pub value_bound : (i v : ℕ) → v < g.nodes → finite (rounds g i v) ≡ true → rounds g i v ≼ ((g.nodes - 1) * w)
  value_bound i v l e = let h = finites_le g i in ≼-up (value_by_finites i v l e) (mul-le-mul_right w (omega arith))

-- no weight is above the largest one
heaviest_of-≥ : (ts : List Target) {t : Target} → t ∈ ts → t.weight ≤ heaviest_of ts
unfolding heaviest_of
heaviest_of-≥ [] m = absurd (Memᴰ.not-nil m)
heaviest_of-≥ (u ∷ ts) (Memᴰ.head e) = rw e (le-max_left u.weight (heaviest_of ts))
heaviest_of-≥ (u ∷ ts) (Memᴰ.tail m) = le_trans (heaviest_of-≥ ts m) (le-max_right u.weight (heaviest_of ts))

heaviest-≥ : (hs : List Hyper) {h : Hyper} {t : Target} → h ∈ hs → t ∈ h.targets → t.weight ≤ heaviest hs
unfolding heaviest
heaviest-≥ [] m n = absurd (Memᴰ.not-nil m)
heaviest-≥ (e ∷ hs) (Memᴰ.head q) n = le_trans (heaviest_of-≥ e.targets (rw q at n)) (le-max_left (heaviest_of e.targets) (heaviest hs))
heaviest-≥ (e ∷ hs) (Memᴰ.tail m) n = le_trans (heaviest-≥ hs m n) (le-max_right (heaviest_of e.targets) (heaviest hs))

pub heaviest_light : (g : Graph) → Light g (heaviest g.hypers)
heaviest_light g = record { weight = λ m n. heaviest-≥ g.hypers m n }
