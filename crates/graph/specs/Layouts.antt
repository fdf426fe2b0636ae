-- The records of an accepted graph message by position, for a scan that checks nothing again.
use Rattle.std.specs.Prelude.{ℕ, ◌+◌, ◌*◌, ◌<◌, ◌≤◌, List, length}
use Rattle.wire.specs.Bytes.{number}
use Rattle.wire.specs.Layout.{Layout, items, end, Sound}
use Rattle.rules.specs.Graph.{Graph, Hyper, Cover, Target}
use Rattle.value.specs.Coded.{bound_of}
use Rattle.graph.specs.Format.{graph_header, target_count_at, hyper_width, node_at, target_width, cover_bound_at, cover_target_at, cover_width}

module _ (s : List ℕ) (n : ℕ) where
  -- a target: its bytes fit, and it names a node
  pub record TargetOk (at : ℕ) : Type 0 where
    pub inside : at + target_width ≤ length s
    pub named : number 2 s (at + node_at) < n

  abbrev pub target_layout : Layout Target
  target_layout = record {
    item = λ at. record { weight = number 4 s at; node = number 2 s (at + node_at) };
    next = λ at. at + target_width;
    Ok = TargetOk;
  }

  -- a hyperedge: its fixed bytes fit, its source is a node, and its targets are sound
  pub record HyperOk (at : ℕ) : Type 0 where
    pub inside : at + hyper_width ≤ length s
    pub named : number 2 s at < n
    pub sound : Sound target_layout (number 2 s (at + target_count_at)) (at + hyper_width)

  abbrev pub hyper_layout : Layout Hyper
  hyper_layout = record {
    item = λ at. record { source = number 2 s at; targets = items target_layout (number 2 s (at + target_count_at)) (at + hyper_width) };
    next = λ at. at + hyper_width + number 2 s (at + target_count_at) * target_width;
    Ok = HyperOk;
  }

  -- a cover edge: its bytes fit, and both its nodes exist
  pub record CoverOk (at : ℕ) : Type 0 where
    pub inside : at + cover_width ≤ length s
    pub named : number 2 s at < n
    pub target_named : number 2 s (at + cover_target_at) < n

  abbrev pub cover_layout : Layout Cover
  cover_layout = record {
    item = λ at. record { source = number 2 s at; bound = bound_of (number 4 s (at + cover_bound_at)); target = number 2 s (at + cover_target_at) };
    next = λ at. at + cover_width;
    Ok = CoverOk;
  }

-- the graph that the bytes hold, with n nodes, h hyperedges and c cover edges
unfoldable pub decoded : List ℕ → (n h c : ℕ) → Graph
decoded s n h c = record {
  nodes = n;
  hypers = items (hyper_layout s n) h graph_header;
  covers = items (cover_layout s n) c (end (hyper_layout s n) h graph_header);
}

-- its records are sound: what a scan may rely on
pub record Scannable (s : List ℕ) (n h c : ℕ) : Type 0 where
  pub hypers : Sound (hyper_layout s n) h graph_header
  pub covers : Sound (cover_layout s n) c (end (hyper_layout s n) h graph_header)
