-- Tests of many records at once, by position: whether targets name nodes, and whether cover edges are in order.
use Rattle.std.specs.Prelude.{ℕ, zero, suc, ◌+◌, ◌*◌, ◌-◌, ◌/◌, List, Bool, true, cond, ◌&&◌, length, ltb, eqb}
use Rattle.refusal.specs.declared.Refusal.TheVariants.{Length}
use Rattle.refusal.specs.Number.{nowhere}
use Rattle.wire.specs.Bytes.{number}
use Rattle.wire.specs.Read.{Read, ◌>>=◌, demand}
use Rattle.wire.specs.Reader.{run}
use Rattle.wire.specs.Begin.{start}
use Rattle.ordered.specs.Ordered.{in_order}
use Rattle.graph.specs.Format.{node_at, target_width, cover_target_at, cover_width}
use Rattle.graph.specs.Message.{covers}

-- four targets, and how many fours fit between two positions
abbrev pub four_width : ℕ
four_width = 4 * target_width

abbrev pub fours : (first end : ℕ) → ℕ
fours first end = (end - first) / four_width

module _ (s : List ℕ) (n : ℕ) where
  -- the target at a position names a node
  abbrev pub target_named : ℕ → Bool
  target_named at = ltb (number 2 s (at + node_at)) n

  -- so do j targets, one behind another
  unfoldable pub all_named : (j at : ℕ) → Bool
  all_named zero at = true
  all_named (suc j) at = target_named at && all_named j (at + target_width)

  -- the position behind all fours that fit before the end, if each of their targets names a node, and else still the first
  unfoldable pub past_fours : (first end : ℕ) → ℕ
  past_fours first end = cond (all_named (fours first end * 4) first) (first + fours first end * four_width) first

  -- c cover edges are in order, and the message ends behind them
  unfoldable pub covers_in_order : (c first : ℕ) → Bool
  covers_in_order c first = eqb (length s) (first + c * cover_width) && in_order s n cover_target_at c 0 first

  -- the cover edges, one by one, and nothing left over
  abbrev pub covers_to_end : (c first : ℕ) → Read Unit
  covers_to_end c first = run (covers s n) c (start first) >>= λ st. demand (eqb st.at (length s)) Length nowhere
