-- How a graph message is laid out. Every width and position is said here, once; a message that changes is changed here.
use Rattle.std.specs.Prelude.{ℕ, ◌+◌, ◌*◌}
use Rattle.wire.specs.declared.Head.{Head}
use Rattle.wire.specs.declared.Count.{Count}
use Rattle.wire.specs.declared.Width.TheVariants.{Two, Four}

-- the header, 14 bytes, version 1, kind 1
abbrev pub graph_header : ℕ
graph_header = 14

abbrev pub graph_head : Head
graph_head = record { length = graph_header; version = 1; kind = 1 }

-- its counts: n (2), h (4), c (2)
abbrev pub nodes_count : Count
nodes_count = record { at = 6; width = Two; least = 1; most = 4096 }

abbrev pub hypers_count : Count
hypers_count = record { at = 8; width = Four; least = 0; most = 65535 }

abbrev pub covers_count : Count
covers_count = record { at = 12; width = Two; least = 0; most = 4096 }

-- the targets of all hyperedges together
abbrev pub most_targets : ℕ
most_targets = 262144

-- a hyperedge: source (2), target count (2), so 4 bytes, and behind them its targets
abbrev pub target_count_at : ℕ
target_count_at = 2

abbrev pub hyper_width : ℕ
hyper_width = target_count_at + 2

-- a target: weight (4) and node (2), so 6 bytes
abbrev pub node_at : ℕ
node_at = 4

abbrev pub target_width : ℕ
target_width = node_at + 2

-- a cover edge: source (2), bound (4), target (2), so 8 bytes
abbrev pub cover_bound_at : ℕ
cover_bound_at = 2

abbrev pub cover_target_at : ℕ
cover_target_at = cover_bound_at + 4

abbrev pub cover_width : ℕ
cover_width = cover_target_at + 2

-- how long the message of so many hyperedges, targets of all of them and cover edges is
abbrev pub graph_length : (h targets c : ℕ) → ℕ
graph_length h targets c = graph_header + h * hyper_width + targets * target_width + c * cover_width
