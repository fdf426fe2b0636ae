-- Depth labels, written over: what a pass makes of them.
use Rattle.std.specs.Prelude.{ℕ, ◌≤◌, ◌<◌, Bool, true, false, List, ◌≡◌, length, get_or}
use Rattle.lists.specs.Lists.{◌∈◌}
use Rattle.rules.specs.Graph.{Graph, Target, Hyper, Cover}
use Rattle.rules.specs.Depths.{Layered}

-- the label of a node
abbrev pub label : List ℕ → ℕ → ℕ
label b v = get_or b v 0

-- no label of a node is above m
abbrev pub Within : ℕ → List ℕ → ℕ → Type 0
Within n b m = (v : ℕ) → v < n → label b v ≤ m

-- r is the largest label of the targets, 0 with none
pub record Deepest (d : ℕ → ℕ) (ts : List Target) (r : ℕ) : Type 0 where
  pub above : (t : Target) → t ∈ ts → d t.node ≤ r
  pub least : (m : ℕ) → ((t : Target) → t ∈ ts → d t.node ≤ m) → r ≤ m

-- no target lies deeper than the source; over a cover edge the target lies less deep
abbrev pub HyperFalls : (low high : ℕ → ℕ) → Hyper → Type 0
HyperFalls low high h = (t : Target) → t ∈ h.targets → low t.node ≤ high h.source

abbrev pub CoverFalls : (low high : ℕ → ℕ) → Cover → Type 0
CoverFalls low high c = low c.target < high c.source

-- a pass over edges: labels rise to what each edge asks, and no further than any depths that fall along all of them; moved says whether any rose
pub record Deeper {A : Type 0} (n : ℕ) (edges : List A) (Falls : (low high : ℕ → ℕ) → A → Type 0) (b₀ b : List ℕ) (moved : Bool) : Type 0 where
  pub same_length : length b ≡ length b₀
  pub rise : (v : ℕ) → label b₀ v ≤ label b v
  pub each : (e : A) → e ∈ edges → Falls (label b₀) (label b) e
  pub under : (d : ℕ → ℕ) → ((e : A) → e ∈ edges → Falls d d e) → ((v : ℕ) → v < n → label b₀ v ≤ d v) → (v : ℕ) → v < n → label b v ≤ d v
  pub still : moved ≡ false → b ≡ b₀
  pub went : moved ≡ true → (v : ℕ) × (v < n) × (label b₀ v < label b v)

-- the same over all edges of a graph
pub record Pass (g : Graph) (b₀ b : List ℕ) (moved : Bool) : Type 0 where
  pub same_length : length b ≡ length b₀
  pub rise : (v : ℕ) → label b₀ v ≤ label b v
  pub hyper : (h : Hyper) → h ∈ g.hypers → HyperFalls (label b₀) (label b) h
  pub cover : (c : Cover) → c ∈ g.covers → CoverFalls (label b₀) (label b) c
  pub under : (d : ℕ → ℕ) → Layered g d → ((v : ℕ) → v < g.nodes → label b₀ v ≤ d v) → (v : ℕ) → v < g.nodes → label b v ≤ d v
  pub still : moved ≡ false → b ≡ b₀
  pub went : moved ≡ true → (v : ℕ) × (v < g.nodes) × (label b₀ v < label b v)
