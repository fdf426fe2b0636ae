-- The rounds on a graph, and what it is for an assignment to obey the rules.
use Rattle.std.specs.Prelude.{ℕ, suc, zero, ◌<◌, List, [], ◌∷◌, ◌≡◌, Bool, cond, ◌&&◌, eqb}
use Rattle.lists.specs.Lists.{any}
use Rattle.value.specs.Value.{Value, fin, inf, plus, greatest, least, meets, ◌⊑◌}
use Rattle.rules.specs.Graph.{Graph, Hyper, Cover, Target}

-- a value for each node; what it says of numbers that are no node does not matter
abbrev pub Assignment : Type 0
Assignment = ℕ → Value

-- the cover edge holds: its target's value is within its bound
abbrev pub cover_holds : Assignment → Cover → Bool
cover_holds x c = meets c.bound (x c.target)

-- some cover edge of v holds
unfoldable pub covered : Assignment → ℕ → List Cover → Bool
covered x v cs = any (λ c. eqb c.source v && cover_holds x c) cs

-- the greatest weight plus target value of a hyperedge; 0 with no target
unfoldable pub worst : Assignment → List Target → Value
worst x [] = fin 0
worst x (t ∷ ts) = greatest (plus t.weight (x t.node)) (worst x ts)

-- the least over the hyperedges of v; infinity with none
unfoldable pub best : Assignment → ℕ → List Hyper → Value
best x v [] = inf
best x v (h ∷ hs) = least (cond (eqb h.source v) (worst x h.targets) inf) (best x v hs)

-- each node worked out from the assignment: 0 if some cover edge of it holds, otherwise the least over its hyperedges
unfoldable pub round : Graph → Assignment → Assignment
round g x v = cond (covered x v g.covers) (fin 0) (best x v g.hypers)

-- in round 0 every node holds infinity; round i + 1 is worked out from round i only
unfoldable pub rounds : Graph → ℕ → Assignment
rounds g zero v = inf
rounds g (suc i) v = round g (rounds g i) v

-- the two assignments agree at every node
abbrev pub Agree : Graph → Assignment → Assignment → Type 0
Agree g x y = (v : ℕ) → v < g.nodes → x v ≡ y v

-- an assignment obeys the rules when working out a round from it gives it back
abbrev pub Obeys : Graph → Assignment → Type 0
Obeys g x = Agree g (round g x) x

-- the one assignment is at most the other at every node
abbrev pub Below : Graph → Assignment → Assignment → Type 0
Below g x y = (v : ℕ) → v < g.nodes → x v ⊑ y v

-- the pointwise largest assignment that obeys the rules
pub record Largest (g : Graph) (x : Assignment) : Type 0 where
  pub obeys : Obeys g x
  pub largest : (y : Assignment) → Obeys g y → Below g y x

-- round i equals round i + 1
abbrev pub Settled : Graph → ℕ → Type 0
Settled g i = Agree g (rounds g (suc i)) (rounds g i)
