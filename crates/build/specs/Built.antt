-- What the builder answers, and what it leaves in the room.
use Rattle.std.specs.Prelude.{ℕ, ◌+◌, ◌*◌, ◌≤◌, List, ◌++◌, ◌≡◌, Bool, true, cond, ◌&&◌, length, drop, leb}
use Rattle.lists.specs.Lists.{all}
use Rattle.refusal.specs.Number.{unplaced}
use Rattle.refusal.specs.declared.Refusal.TheVariants.{Size, Room}
use Rattle.wire.specs.Read.{Read, Ok, Err}
use Rattle.rules.specs.Graph.{Graph}
use Rattle.graph.specs.Format.{graph_length}
use Rattle.graph.specs.WellFormed.{targets_of}
use Rattle.graph.specs.Write.{write_graph}
use Rattle.sizing.specs.declared.Size as size
use Rattle.sizing.specs.Size.{in_limits}

-- the returned length of an answer: a refusal has length 0
abbrev pub built_length : Read ℕ → ℕ
built_length (Ok n) = n
built_length (Err e) = 0

-- the graph passes no limit on n, h, c or targets, all together or of one hyperedge
unfoldable pub fits : Graph → Bool
fits g =
    leb g.nodes 4096
    && (leb (length g.hypers) 65535
    && (leb (targets_of g.hypers) 262144
    && (all (λ h. leb (length h.targets) 65535) g.hypers
    && leb (length g.covers) 4096)))

-- the room of bytes and the room of numbers are large enough: for the message, and for two rounds
unfoldable pub roomy : Graph → List ℕ → ℕ → Bool
roomy g b values = leb (length (write_graph g)) (length b) && leb (g.nodes + g.nodes) values

-- SIZE where it would pass a limit; then ROOM where a room is too small; else the graph's length
unfoldable pub built_of : Graph → List ℕ → ℕ → Read ℕ
built_of g b values = cond (fits g) (cond (roomy g b values) (Ok (length (write_graph g))) (Err (unplaced Room))) (Err (unplaced Size))

-- the graph stands at the front of its room, the rest untouched; a refusal leaves the room as it came
unfoldable pub built_room : Graph → List ℕ → ℕ → List ℕ
built_room g b values = cond (fits g) (cond (roomy g b values) (write_graph g ++ drop (length (write_graph g)) b) b) b

-- with so many nodes and cover edges, hyperedges of this size pass no limit, and rooms of so many bytes and values are large enough
unfoldable pub enough : (nodes covers : ℕ) → size.Size → (bytes values : ℕ) → Bool
enough nodes covers z bytes values = in_limits nodes z && (leb (graph_length z.hypers z.targets covers) bytes && leb (nodes * 2) values)

-- the graph passes no limit, and its bytes fit
pub record Writable (g : Graph) (b : List ℕ) : Type 0 where
  pub fits : fits g ≡ true
  pub room : length (write_graph g) ≤ length b
