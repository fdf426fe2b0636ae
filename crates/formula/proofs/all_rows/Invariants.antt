-- `formula::all_rows` meets its contract: the rows that were read, and those that are left, are the whole reading, and the operands of the
-- first are marked.
use Prim.Native.Nat.{ℕ, ◌-◌, ◌<◌}
use mathlib.Core.List.{List}
use mathlib.Core.Path.{◌≡◌}
use lib.ListN.{length}
use Rattle.lists.specs.Lists.{◌∈◌}
use Rattle.wire.specs.declared.State.{State}
use Rattle.wire.specs.Begin.{start}
use Rattle.syntax.specs.declared.Row.{Row}
use Rattle.formula.specs.declared.Uses.{Uses}
use Rattle.formula.specs.Marked.{Marked}
use Rattle.syntax.specs.Format.{formula_header, place_of}
use Rattle.syntax.specs.Message.{rows}
use Rattle.formula.proofs.Begun.{Begun}
use Rattle.formula.proofs.Marks.{all_operands}
use Rattle.formula.proofs.all_rows.Given as goal

abbrev pub here : (at place : ℕ) → State
here at place = record { at = at; prev = 0; seen = place }

-- the rows before a place were read, and their operands, none of which is the last row, are marked
pub record Counted (s : List ℕ) (uses : Uses) (p f at place : ℕ) : Type 0 where
  pub got : List Row
  pub long : length got ≡ place
  pub marked : Marked uses (all_operands got)
  pub below : (l : ℕ) → l ∈ all_operands got → l < f - 1
  pub left : Begun (rows s p) f (start formula_header) got (f - place) (here at place)

abbrev pub invariant-loop-place : goal.invariant-loop-place
invariant-loop-place l = record { stands : l.at ≡ place_of l.place; counted : Counted l.s l.uses l.p l.f l.at l.place }
