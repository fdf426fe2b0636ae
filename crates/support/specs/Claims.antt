-- Claims: a value and a rank for each node, how they are stored, and when they are accepted.
use Rattle.std.specs.Prelude.{ℕ, ◌+◌, ◌*◌, ◌<◌, List, ◌≡◌, true}
use Rattle.lists.specs.Lists.{◌∈◌}
use Rattle.value.specs.Value.{finite}
use Rattle.value.specs.Stored.{meaning}
use Rattle.wire.specs.Bytes.{number}
use Rattle.wire.specs.Field.{long_width}
use Rattle.rules.specs.Graph.{Graph, Target, Hyper, Cover}
use Rattle.rules.specs.Rounds.{Assignment, cover_holds, worst, Obeys}

-- ---- 16 bytes a node, node 0 first: the value (8; infinity as stored), then the rank (8)

abbrev pub rank_at : ℕ
rank_at = long_width

abbrev pub claim_width : ℕ
claim_width = rank_at + long_width

abbrev pub claimed_value : List ℕ → Assignment
claimed_value claims v = meaning (number long_width claims (v * claim_width))

abbrev pub claimed_rank : List ℕ → ℕ → ℕ
claimed_rank claims v = number long_width claims (v * claim_width + rank_at)

-- ---- when they are accepted

-- what gives v its value: a hyperedge of it that gives exactly its value, or a cover edge of it that holds, all of whose targets have Q
pub data Supported (g : Graph) (x : Assignment) (Q : ℕ → Type 0) (v : ℕ) : Type 0 where
  by_hyper : (h : Hyper) → h ∈ g.hypers → h.source ≡ v → worst x h.targets ≡ x v → ((t : Target) → t ∈ h.targets → Q t.node) → Supported g x Q v
  by_cover : (c : Cover) → c ∈ g.covers → c.source ≡ v → cover_holds x c ≡ true → Q c.target → Supported g x Q v

-- a support: all of its targets have a smaller rank
abbrev pub Support : Graph → Assignment → (ℕ → ℕ) → ℕ → Type 0
Support g x rank v = Supported g x (λ u. rank u < rank v) v

-- claims are accepted when they obey the rules and each finite node has a support
pub record Accepts (g : Graph) (x : Assignment) (rank : ℕ → ℕ) : Type 0 where
  pub obeys : Obeys g x
  pub supported : (v : ℕ) → v < g.nodes → finite (x v) ≡ true → Support g x rank v

-- the same of stored claims
abbrev pub AcceptsClaims : Graph → (claims : List ℕ) → Type 0
AcceptsClaims g claims = Accepts g (claimed_value claims) (claimed_rank claims)
