-- The bytes of a graph message.
use Rattle.std.specs.Prelude.{ℕ, List, ◌++◌, length}
use Rattle.wire.specs.Bytes.{bytes}
use Rattle.wire.specs.Write.{write_all, write_start, message}
use Rattle.graph.specs.Format.{graph_head}
use Rattle.rules.specs.Graph.{Hyper, Cover, Target}
use Rattle.value.specs.Coded.{code_of}
use Rattle.graph.specs.Stored.{StoredGraph}

-- weight (4) and node (2)
unfoldable pub write_target : Target → List ℕ
write_target t = bytes 4 t.weight ++ bytes 2 t.node

-- source (2), target count (2), and the targets
unfoldable pub write_hyper : Hyper → List ℕ
write_hyper h = bytes 2 h.source ++ bytes 2 (length h.targets) ++ write_all write_target h.targets

-- source (2), bound (4), target (2)
unfoldable pub write_cover : Cover → List ℕ
write_cover c = bytes 2 c.source ++ bytes 4 (code_of c.bound) ++ bytes 2 c.target

-- n (2), h (4), c (2)
abbrev pub write_counts : (n h c : ℕ) → List ℕ
write_counts n h c = bytes 2 n ++ bytes 4 h ++ bytes 2 c

-- the header of a message of this length: its start, and its counts
abbrev pub write_header : (long n h c : ℕ) → List ℕ
write_header long n h c = write_start graph_head long ++ write_counts n h c

-- the counts, the hyperedges, the cover edges
unfoldable pub write_body : StoredGraph → List ℕ
write_body g =
    write_counts g.nodes (length g.hypers) (length g.covers) ++ write_all write_hyper g.hypers ++ write_all write_cover g.covers

-- behind the start
unfoldable pub write_graph : StoredGraph → List ℕ
write_graph g = message graph_head (write_body g)
