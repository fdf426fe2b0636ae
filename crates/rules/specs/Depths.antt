-- Depths, which the law about graphs without a cycle through a cover edge goes by: no step leads deeper, and each cover edge leads less deep.
-- Depth labels find them: from 0 everywhere, passes that deepen each node to what its edges lead to, one more over a cover edge.
use Rattle.std.specs.Prelude.{ℕ, suc, zero, ◌≤◌, ◌<◌, max, List, [], ◌∷◌, ◌≡◌, Bool, cond, eqb}
use Rattle.lists.specs.Lists.{◌∈◌, all, up_to}
use Rattle.rules.specs.Graph.{Graph, Target, Hyper, Cover}

-- a depth for each node that no step raises, and that each cover edge lowers
pub record Layered (g : Graph) (d : ℕ → ℕ) : Type 0 where
  pub hyper : {h : Hyper} {t : Target} → h ∈ g.hypers → t ∈ h.targets → d t.node ≤ d h.source
  pub cover : {c : Cover} → c ∈ g.covers → d c.target < d c.source

-- ---- the labels

-- the largest number that f gives over a list; 0 with none
unfoldable pub largest : {A : Type 0} → (A → ℕ) → List A → ℕ
largest f [] = 0
largest f (a ∷ l) = max (f a) (largest f l)

-- what an edge gives v, nothing where it is another node's: the largest label of a target; over a cover edge one more
abbrev pub hyper_depth : (ℕ → ℕ) → ℕ → Hyper → ℕ
hyper_depth x v h = cond (eqb h.source v) (largest (λ (t : Target). x t.node) h.targets) 0

abbrev pub cover_depth : (ℕ → ℕ) → ℕ → Cover → ℕ
cover_depth x v c = cond (eqb c.source v) (suc (x c.target)) 0

-- a pass: the largest of the old label and what the edges give
unfoldable pub deepen : Graph → (ℕ → ℕ) → ℕ → ℕ
deepen g x v = max (x v) (max (largest (hyper_depth x v) g.hypers) (largest (cover_depth x v) g.covers))

-- the labels after so many passes
unfoldable pub depths : Graph → ℕ → ℕ → ℕ
depths g zero v = 0
depths g (suc i) v = deepen g (depths g i) v

-- pass i + 1 changes nothing
abbrev pub Still : Graph → ℕ → Type 0
Still g i = (v : ℕ) → v < g.nodes → depths g (suc i) v ≡ depths g i v

unfoldable pub unmoved : Graph → ℕ → Bool
unmoved g i = all (λ v. eqb (depths g (suc i) v) (depths g i v)) (up_to g.nodes)
