-- What a scan of edges finds, edge by edge.
use Rattle.std.specs.Prelude.{ℕ, zero, suc, List, Option, None, Some, cond, slice_set}
use Rattle.wire.specs.declared.State.{State}
use Rattle.edges.specs.declared.Edge.{Edge}

-- the marks behind an edge: its source is marked by 1 where the edge backs it
abbrev pub marks_behind : Edge → List ℕ → List ℕ
marks_behind e b = cond e.backs (slice_set b e.next.prev 1) b

-- so many edges from a state, each found in the state and by the marks that the ones before it left, up to the first that is odd: where they end
pub data Chain (Found : List ℕ → State → Option Edge → Type 0) : ℕ → State → List ℕ → Option ℕ → List ℕ → Type 0 where
  past : {st : State} {b : List ℕ} → Chain Found zero st b (Some st.at) b
  odd : {k : ℕ} {st : State} {b : List ℕ} → Found b st None → Chain Found (suc k) st b None b
  more : {k : ℕ} {st : State} {b : List ℕ} {e : Edge} {r : Option ℕ} {b' : List ℕ} → Found b st (Some e)
      → Chain Found k e.next (marks_behind e b) r b' → Chain Found (suc k) st b r b'
