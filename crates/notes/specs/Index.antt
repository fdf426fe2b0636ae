-- Where each node is a target: for a slot of nodes the first and the last hyperedge that has one of them as a target.
use Rattle.std.specs.Prelude.{ℕ, ◌+◌, ◌*◌, ◌/◌, ◌%◌, ◌<◌, ◌≤◌, min, max, List, Bool, true, false, cond, ◌&&◌, ◌⊎◌, ◌≡◌, length, get_or, leb, ltb}
use Rattle.lists.specs.Lists.{◌∈◌}
use Rattle.wire.specs.Bytes.{number}
use Rattle.wire.specs.Layout.{end}
use Rattle.rules.specs.Graph.{Target}
use Rattle.graph.specs.Format.{graph_header, cover_target_at, cover_width}
use Rattle.graph.specs.Layouts.{hyper_layout}
use Rattle.halves.specs.Room.{Raised, Level, Beside}
use Rattle.notes.specs.declared.Marks.{Marks}
use Rattle.notes.specs.declared.Span.{Span}

-- the slot of a node: a slot each, or eight nodes to a slot
unfoldable pub slot_of : ℕ → ℕ → ℕ
slot_of n v = cond (leb n 512) (v % 512) (v / 8 % 512)

-- the first hyperedge of a slot that has none
abbrev pub unnoted : ℕ
unnoted = 4294967295

-- no marks
abbrev pub no_marks : Marks
no_marks = record { first = unnoted; last = 0; at = graph_header; low = unnoted; high = 0 }

-- the targets of hyperedge i
abbrev pub targets_at : List ℕ → (n i : ℕ) → List Target
targets_at s n i = ((hyper_layout s n).item (end (hyper_layout s n) i graph_header)).targets

-- a hyperedge of k targets is long, where there are n nodes
unfoldable pub long_for : (n k : ℕ) → Bool
long_for n k = leb 64 k && leb n (k + k)

-- what is noted of a slot; zeros, which nothing speaks of, where there is no such slot
abbrev pub zeros : Marks
zeros = record { first = 0; last = 0; at = 0; low = 0; high = 0 }

abbrev pub slot_at : List Marks → ℕ → Marks
slot_at slots u = get_or slots u zeros

-- record i is not before the first, nor behind the last
pub record Spans (first last i : ℕ) : Type 0 where
  pub from : first ≤ i
  pub upto : i < last

-- those of the first j hyperedges that are not long are noted, but for the targets left of the last
pub record Noted (s : List ℕ) (n j : ℕ) (rest : List Target) (slots : List Marks) : Type 0 where
  pub all : length slots ≡ 512
  pub reach : (i : ℕ) (t : Target) → i < j → long_for n (length (targets_at s n i)) ≡ false → t ∈ targets_at s n i
      → let m = slot_at slots (slot_of n t.node) in Spans m.first m.last i ⊎ ((i + 1 ≡ j) × (t ∈ rest))
  pub placed : (u : ℕ) → u < 512 → let m = slot_at slots u in m.first < unnoted → m.at ≡ end (hyper_layout s n) m.first graph_header
  pub within : (u : ℕ) → u < 512 → (slot_at slots u).last ≤ j

-- the long ones of the first j hyperedges are between those that are marked, and no cover edge is
pub record Longs (s : List ℕ) (n j : ℕ) (m : Marks) : Type 0 where
  pub holds : (i : ℕ) → i < j → long_for n (length (targets_at s n i)) ≡ true → (m.first ≤ i) × (i < m.last)
  pub upto : m.last ≤ j
  pub there : m.first < unnoted → m.at ≡ end (hyper_layout s n) m.first graph_header
  pub no_covers : m.high ≡ 0

-- the first j cover edges from a position are noted
pub record NotedCovers (s : List ℕ) (n j middle : ℕ) (slots : List Marks) : Type 0 where
  pub all : length slots ≡ 512
  pub reach : (i : ℕ) → i < j → let m = slot_at slots (slot_of n (number 2 s (middle + i * cover_width + cover_target_at))) in Spans m.low m.high i
  pub within : (u : ℕ) → u < 512 → (slot_at slots u).high ≤ j

-- of hyperedges, and of cover edges, the same is noted
pub record SameHypers (slots₀ slots : List Marks) : Type 0 where
  pub same_length : length slots ≡ length slots₀
  pub first : (u : ℕ) → (slot_at slots u).first ≡ (slot_at slots₀ u).first
  pub last : (u : ℕ) → (slot_at slots u).last ≡ (slot_at slots₀ u).last
  pub at : (u : ℕ) → (slot_at slots u).at ≡ (slot_at slots₀ u).at

pub record SameCovers (slots₀ slots : List Marks) : Type 0 where
  pub same_length : length slots ≡ length slots₀
  pub low : (u : ℕ) → (slot_at slots u).low ≡ (slot_at slots₀ u).low
  pub high : (u : ℕ) → (slot_at slots u).high ≡ (slot_at slots₀ u).high

-- the records of the slots of those of the first i nodes that changed are from a to z; those of a slot are from `first` to `last`
pub record Marked (first last : Marks → ℕ) (n i : ℕ) (slots : List Marks) (b : List ℕ) (a z : ℕ) : Type 0 where
  pub reach : (v : ℕ) → v < i → ¬ (get_or b v 0 ≡ get_or b (n + v) 0) → let m = slot_at slots (slot_of n v) in (a ≤ first m) × (last m ≤ z)
  pub top : (k : ℕ) → ((u : ℕ) → u < 512 → last (slot_at slots u) ≤ k) → z ≤ k

-- a hyperedge noted, or a cover edge, behind all that are; and two marks together
abbrev pub hyper_noted : Marks → (j p : ℕ) → Marks
hyper_noted m j p = record { first = min m.first j; last = j + 1; at = cond (ltb j m.first) p m.at; low = m.low; high = m.high }

abbrev pub cover_noted : Marks → (j : ℕ) → Marks
cover_noted m j = record { first = m.first; last = m.last; at = m.at; low = min m.low j; high = j + 1 }

abbrev pub more_marks : Marks → Marks → Marks
more_marks m o = record {
  first = min m.first o.first;
  last = max m.last o.last;
  at = cond (ltb o.first m.first) o.at m.at;
  low = min m.low o.low;
  high = max m.high o.high;
}

-- the first marked hyperedge stands at its position
abbrev pub Placed : List Marks → Marks → Type 0
Placed slots m = m.first < unnoted → (u : ℕ) × (u < 512) × (m.first ≡ (slot_at slots u).first) × (m.at ≡ (slot_at slots u).at)

-- the records of the first i slots are from a to z
pub record Slots (first last : Marks → ℕ) (i : ℕ) (slots : List Marks) (a z : ℕ) : Type 0 where
  pub reach : (u : ℕ) → u < i → let m = slot_at slots u in (a ≤ first m) × (last m ≤ z)
  pub top : (k : ℕ) → ((u : ℕ) → u < 512 → last (slot_at slots u) ≤ k) → z ≤ k

-- the first i slots are marked
pub record Everything (slots : List Marks) (i : ℕ) (m : Marks) : Type 0 where
  pub hypers : Slots (λ m. m.first) (λ m. m.last) i slots m.first m.last
  pub placed : Placed slots m
  pub covers : Slots (λ m. m.low) (λ m. m.high) i slots m.low m.high

-- the first i numbers are brought up to the next round, and what they reach is marked
pub record Published (n i : ℕ) (slots : List Marks) (b₀ b : List ℕ) (m : Marks) : Type 0 where
  pub raised : Raised n i b₀ b
  pub hypers : Marked (λ m. m.first) (λ m. m.last) n i slots b₀ m.first m.last
  pub placed : Placed slots m
  pub covers : Marked (λ m. m.low) (λ m. m.high) n i slots b₀ m.low m.high

-- all nodes from one to before another
abbrev pub whole_of : (lo hi : ℕ) → Span
whole_of lo hi = record { lo = lo; gap = lo; behind = lo; hi = hi }

-- two spans in order, and what is between them the gap; none where they overlap
abbrev pub spread_of : (lo hi from to : ℕ) → Span
spread_of lo hi from to =
    cond (leb hi from) (record { lo = lo; gap = hi; behind = from; hi = to })
    (cond (leb to lo) (record { lo = from; gap = to; behind = lo; hi = hi })
    (whole_of (min lo from) (max hi to)))

-- outside of the two spans both halves are the same
pub record Besides (n : ℕ) (d : Span) (b : List ℕ) : Type 0 where
  pub in_order : (d.lo ≤ d.gap) × (d.gap ≤ d.behind) × (d.behind ≤ d.hi) × (d.hi ≤ n)
  pub beside : Beside n d.lo d.hi b
  pub among : Level n d.gap d.behind b
