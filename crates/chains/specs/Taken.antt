-- What the second half holds while the records of changed nodes are taken in: the round of the part of the graph that they make.
use Rattle.std.specs.Prelude.{ℕ, ◌+◌, ◌<◌, ◌≤◌, min, List, cond, ◌≡◌, ltb, get_or}
use Rattle.lists.specs.Lists.{◌∈◌}
use Rattle.value.specs.Stored.{stored, infinite}
use Rattle.wire.specs.Layout.{items}
use Rattle.rules.specs.Graph.{Graph, Hyper, Cover}
use Rattle.rules.specs.Rounds.{cover_holds, worst, round}
use Rattle.graph.specs.Format.{graph_header}
use Rattle.graph.specs.Layouts.{hyper_layout, cover_layout, HyperOk, CoverOk}
use Rattle.halves.specs.Held.{held}
use Rattle.halves.specs.Room.{half}
use Rattle.scans.specs.Scan.{lowered, Done}
use Rattle.links.specs.declared.Place.{Place}
use Rattle.links.specs.Links.{place_at, Reached}

-- a sound record at a position: a hyperedge before `middle`, a cover edge from there on
pub record RecordOk (s : List ℕ) (n middle at : ℕ) : Type 0 where
  pub hyper : at < middle → HyperOk s n at
  pub cover : middle ≤ at → CoverOk s n at

-- what it gives its source, by the numbers of a round: a hyperedge the worst of its targets; a cover edge 0 where it holds, infinity where not
unfoldable pub given_at : List ℕ → (n middle at : ℕ) → List ℕ → ℕ
given_at s n middle at x =
    cond (ltb at middle) (stored (worst (held x) ((hyper_layout s n).item at).targets)) (cond (cover_holds (held x) ((cover_layout s n).item at)) 0 infinite)

-- it was taken into the second half: the next number of its source is lowered to what it gives by the first
abbrev pub RecordIn : List ℕ → (n middle at : ℕ) → (b₀ b : List ℕ) → Type 0
RecordIn s n middle at b₀ b = b ≡ lowered s n at (given_at s n middle at (half n 0 b₀)) b₀

-- the part has it
pub record Has (s : List ℕ) (n middle : ℕ) (p : Graph) (at : ℕ) : Type 0 where
  pub hyper : at < middle → (hyper_layout s n).item at ∈ p.hypers
  pub cover : middle ≤ at → (cover_layout s n).item at ∈ p.covers

-- the second half has the least of what it had and the round of a part of the graph
pub record Taken (s : List ℕ) (n h c middle : ℕ) (b₀ b : List ℕ) (p : Graph) : Type 0 where
  pub nodes : p.nodes ≡ n
  pub room : Done n 0 n b₀ b (λ v. min (get_or b₀ (n + v) 0) (stored (round p (held (half n 0 b₀)) v)))
  pub hyper_of : {x : Hyper} → x ∈ p.hypers → x ∈ items (hyper_layout s n) h graph_header
  pub cover_of : {x : Cover} → x ∈ p.covers → x ∈ items (cover_layout s n) c middle

-- a part that has what p has, and the records of a chain
pub record Further (s : List ℕ) (n h c middle : ℕ) (places : List Place) (head : ℕ) (b₀ b : List ℕ) (p : Graph) : Type 0 where
  pub part : Graph
  pub taken : Taken s n h c middle b₀ b part
  pub keeps : (at : ℕ) → Has s n middle p at → Has s n middle part at
  pub has : (q : ℕ) → Reached places q head → Has s n middle part (place_at places q).spot

-- a part that has the records of the chains of the nodes that are listed
pub record TakenAll (s : List ℕ) (n h c middle many : ℕ) (nodes heads : List ℕ) (places : List Place) (b₀ b : List ℕ) : Type 0 where
  pub part : Graph
  pub taken : Taken s n h c middle b₀ b part
  pub has : (k : ℕ) → k < many → (q : ℕ) → Reached places q (get_or heads (get_or nodes k 0) 0) → Has s n middle part (place_at places q).spot
