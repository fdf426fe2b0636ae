-- The reading of a graph message s: its first fault in the paper's order, with the offset of the field at fault, or the graph.
-- A state's `at` is a position in s, `prev` the source before, and `seen` the targets so far.
use Rattle.std.specs.Prelude.{ℕ, ◌+◌, ◌*◌, List, length, leb, eqb}
use Rattle.refusal.specs.declared.Refusal.TheVariants.{Length, Limit}
use Rattle.refusal.specs.Number.{nowhere}
use Rattle.wire.specs.Read.{Read, Ok, ◌>>=◌, ◌>>◌, demand, field, named, source}
use Rattle.wire.specs.Reader.{Reader, read_all, past}
use Rattle.wire.specs.Start.{read_start}
use Rattle.wire.specs.Counts.{read_count}
use Rattle.wire.specs.Begin.{start}
use Rattle.rules.specs.Graph.{Hyper, Cover, Target}
use Rattle.value.specs.Coded.{bound_of}
use Rattle.wire.specs.declared.State.{State}
use Rattle.graph.specs.declared.Counts.{Counts}
use Rattle.graph.specs.Format.{graph_header, graph_head, nodes_count, hypers_count, covers_count, most_targets, target_count_at, hyper_width, node_at, target_width, cover_bound_at, cover_target_at, cover_width}
use Rattle.graph.specs.Stored.{StoredGraph}

-- where a hyperedge's targets start
abbrev pub first_target : State → State
first_target st = record { at = st.at + hyper_width; prev = st.prev; seen = st.seen }

-- the state past a hyperedge
abbrev pub after_hyper : State → ℕ → ℕ → State
after_hyper st source count = record { at = st.at + hyper_width + count * target_width; prev = source; seen = st.seen + count }

module _ (s : List ℕ) (n : ℕ) where
  -- a target: weight (4) and node (2)
  unfoldable pub read_target : State → Read Target
  read_target st = do
    weight ← field 4 s st.at
    node ← named 2 s (st.at + node_at) n
    Ok (record { weight = weight; node = node })

  -- the targets of a hyperedge, one behind another
  abbrev pub targets : Reader State Target
  targets = record {
    position = λ st. st.at;
    read = read_target;
    next = λ st t. record { at = st.at + target_width; prev = st.prev; seen = st.seen };
  }

  -- the targets of a hyperedge: the running total's limit, at the target count, then their bytes fit, then each
  unfoldable pub read_targets : State → ℕ → ℕ → Read Hyper
  read_targets st source count = do
    demand (leb (st.seen + count) most_targets) Limit (st.at + target_count_at)
    demand (leb (st.at + hyper_width + count * target_width) (length s)) Length nowhere
    ts ← read_all targets count (first_target st)
    Ok (record { source = source; targets = ts })

  -- a hyperedge: its fixed bytes fit; source (2), target count (2), and its targets
  unfoldable pub read_hyper : State → Read Hyper
  read_hyper st = do
    demand (leb (st.at + hyper_width) (length s)) Length nowhere
    v ← source s st.at n st.prev
    count ← field 2 s (st.at + target_count_at)
    read_targets st v count

  -- the hyperedges; each moves on by its targets, which are added to the total
  abbrev pub hypers : Reader State Hyper
  hypers = record {
    position = λ st. st.at;
    read = read_hyper;
    next = λ st h. after_hyper st h.source (length h.targets);
  }

  -- the state past the targets of a hyperedge
  abbrev pub after_targets : State → ℕ → ℕ → Read State
  after_targets st source count = read_targets st source count >>= λ h. Ok (hypers.next st h)

  -- a cover edge: its bytes fit; source (2), bound (4), target (2)
  unfoldable pub read_cover : State → Read Cover
  read_cover st = do
    demand (leb (st.at + cover_width) (length s)) Length nowhere
    v ← source s st.at n st.prev
    bound ← field 4 s (st.at + cover_bound_at)
    target ← named 2 s (st.at + cover_target_at) n
    Ok (record { source = v; bound = bound_of bound; target = target })

  -- the cover edges, one behind another
  abbrev pub covers : Reader State Cover
  covers = record {
    position = λ st. st.at;
    read = read_cover;
    next = λ st c. record { at = st.at + cover_width; prev = c.source; seen = st.seen };
  }

-- the header: its start, then n, h, c; of targets it tells none
unfoldable pub read_header : List ℕ → Read Counts
read_header s = do
  read_start s graph_head
  n ← read_count s nodes_count
  h ← read_count s hypers_count
  c ← read_count s covers_count
  Ok (record { nodes = n; hypers = h; covers = c; targets = 0 })

-- a whole message: the header, the hyperedges, the cover edges, and nothing left over
unfoldable pub read_graph : List ℕ → Read StoredGraph
read_graph s = do
  counts ← read_header s
  hs ← read_all (hypers s counts.nodes) counts.hypers (start graph_header)
  let middle = (past (hypers s counts.nodes) (start graph_header) hs).at
  cs ← read_all (covers s counts.nodes) counts.covers (start middle)
  let end = (past (covers s counts.nodes) (start middle) cs).at
  demand (eqb end (length s)) Length nowhere
  Ok (record { nodes = counts.nodes; hypers = hs; covers = cs })
