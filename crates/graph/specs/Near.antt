-- Hyperedges that are passed together: whether each fits and is in order is tested at once, and whether they name nodes and have not too many targets
-- is asked once for all of them.
use Rattle.std.specs.Prelude.{ℕ, zero, suc, ◌≡◌, ◌+◌, ◌*◌, ◌-◌, ◌≤◌, List, Bool, Option, Some, None, cond, ◌&&◌, ltb, leb, length, max}
use Rattle.wire.specs.Bytes.{number}
use Rattle.wire.specs.Reader.{run}
use Rattle.graph.specs.Format.{most_targets, target_count_at, hyper_width, node_at, target_width}
use Rattle.graph.specs.Message.{hypers, after_hyper}
use Rattle.graph.specs.declared.Gathered.{Gathered}
use Rattle.graph.specs.declared.Rest.{Rest}
use Rattle.graph.specs.declared.Passed.{Passed}

module _ (s : List ℕ) where
  -- the greatest of j targets' nodes, each with the two bytes behind it as one number
  unfoldable pub greatest : (j at : ℕ) → ℕ
  greatest zero at = 0
  greatest (suc j) at = max (number 4 s (at + node_at)) (greatest j (at + target_width))

  -- j targets are gathered
  abbrev pub gathered : (j : ℕ) → Gathered → Gathered
  gathered j from = record { at = from.at + j * target_width; most = max from.most (greatest j from.at) }

  -- where a hyperedge comes from, and how many targets it has
  abbrev pub source_at : ℕ → ℕ
  source_at at = number 2 s at

  abbrev pub count_at : ℕ → ℕ
  count_at at = number 2 s (at + target_count_at)

  -- one hyperedge more, without a look at its nodes and at the limit of all targets
  abbrev pub behind : Passed → Passed
  behind p =
      let st = p.rest.st in
      record {
        rest = record { st = after_hyper st (source_at st.at) (count_at st.at); left = p.rest.left - 1 };
        most = max p.most (greatest (count_at st.at) (st.at + hyper_width));
      }

  -- from so many targets on a hyperedge is not passed
  abbrev pub many : ℕ
  many = 32

  -- it is passed where one is left, it has not many targets, it ends at the last place or before, and its source is not below the one before
  unfoldable pub pass : (last : ℕ) → Passed → Option Passed
  pass last p =
      let st = p.rest.st in
      cond (ltb 0 p.rest.left && (ltb (count_at st.at) many && (leb (st.at + hyper_width + count_at st.at * target_width) last && leb st.prev (source_at st.at)))) (Some (behind p)) None

-- those that were passed name nodes, and their targets are not too many
unfoldable pub sound : (n : ℕ) → Passed → Bool
sound n p = ltb p.most (n * 65536) && (ltb p.rest.st.prev n && leb p.rest.st.seen most_targets)

-- hyperedges may be read from here
abbrev pub MayRead : (s : List ℕ) (n : ℕ) → Rest → Type 0
MayRead s n rest = (rest.st.at ≤ length s) × (rest.st.seen ≤ most_targets) × (rest.st.prev ≤ n)

-- what is left of them is read from another place as they are from here
abbrev pub ReadsAs : (s : List ℕ) (n : ℕ) (rest other : Rest) → Type 0
ReadsAs s n rest other =
    MayRead s n other × (other.left ≤ rest.left) × (run (hypers s n) other.left other.st ≡ run (hypers s n) rest.left rest.st)
