-- Where a fault of a graph message can lie: where the fields start whose numbers are not free. A weight is, and so is a bound: any 4-byte number.
use Rattle.std.specs.Prelude.{ℕ, ◌+◌, ◌*◌, ◌<◌, List, ◌≡◌}
use Rattle.wire.specs.Bytes.{number}
use Rattle.wire.specs.Layout.{end}
use Rattle.wire.specs.Start.{version_at, kind_at}
use Rattle.wire.specs.Located.{told}
use Rattle.wire.specs.declared.Width.{Width}
use Rattle.wire.specs.declared.Width.TheVariants.{One, Two}
use Rattle.graph.specs.Format.{graph_header, nodes_count, hypers_count, covers_count, target_count_at, hyper_width, node_at, target_width, cover_target_at, cover_width}
use Rattle.graph.specs.Layouts.{hyper_layout}

-- where a hyperedge stands: behind those before it, each with its targets
abbrev pub hyper_at : List ℕ → ℕ → ℕ
hyper_at s j = end (hyper_layout s (told s nodes_count)) j graph_header

-- where a target of the hyperedge at a position stands, and how many it has
abbrev pub target_at : (at i : ℕ) → ℕ
target_at at i = at + hyper_width + i * target_width

abbrev pub targets_told : List ℕ → ℕ → ℕ
targets_told s at = number 2 s (at + target_count_at)

-- where a cover edge stands: behind all hyperedges
abbrev pub cover_at : List ℕ → ℕ → ℕ
cover_at s j = hyper_at s (told s hypers_count) + j * cover_width

-- a field of the message s, of this width, starts here: of its header, a node that an edge names, or a target count
pub data FieldStart (s : List ℕ) (at : ℕ) : Width → Type 0 where
  version : at ≡ version_at → FieldStart s at One
  kind : at ≡ kind_at → FieldStart s at One
  node_count : at ≡ nodes_count.at → FieldStart s at nodes_count.width
  hyper_count : at ≡ hypers_count.at → FieldStart s at hypers_count.width
  cover_count : at ≡ covers_count.at → FieldStart s at covers_count.width
  source : (j : ℕ) → j < told s hypers_count → at ≡ hyper_at s j → FieldStart s at Two
  target_count : (j : ℕ) → j < told s hypers_count → at ≡ hyper_at s j + target_count_at → FieldStart s at Two
  node : (j i : ℕ) → j < told s hypers_count → i < targets_told s (hyper_at s j) → at ≡ target_at (hyper_at s j) i + node_at → FieldStart s at Two
  cover_source : (j : ℕ) → j < told s covers_count → at ≡ cover_at s j → FieldStart s at Two
  cover_target : (j : ℕ) → j < told s covers_count → at ≡ cover_at s j + cover_target_at → FieldStart s at Two
