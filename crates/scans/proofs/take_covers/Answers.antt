-- `scans::take_covers` meets its contract: what is left to do to each next number makes it what it is to be.
use Prim.Native.Nat.{ℕ, ◌+◌, ◌-◌, ◌<◌}
use mathlib.Core.List.{List}
use mathlib.Core.Path.{◌≡◌, refl, sym, ap, ap₂, ◌∙◌}
use native.Mathlib.Omega.{arith}
use lib.ListN.{get_or}
use Rattle.lists.proofs.Tests.{by}
use Rattle.value.specs.declared.Bound.{Bound}
use Rattle.value.specs.Value.{meets}
use Rattle.value.specs.Stored.{meaning}
use Rattle.value.specs.Coded.{bound_of}
use Rattle.wire.specs.Bytes.{number}
use Rattle.wire.proofs.Layouts.{sound_more}
use Rattle.graph.specs.Format.{cover_bound_at, cover_target_at}
use Rattle.graph.specs.Layouts.{CoverOk}
use Rattle.halves.specs.Held.{held}
use Rattle.halves.specs.Room.{half}
use Rattle.halves.proofs.Room.{half_at}
use Rattle.scans.specs.Scan.{forth}
use Rattle.scans.proofs.Scan.{covers_met, covers_unmet, covers_end}
use Rattle.scans.proofs.take_covers.Goals as goal
use Rattle.scans.proofs.take_covers.Goals.{After-within, In-loop, then-within, else-within}

-- a cover edge is left, and it is sound
some : (c : In-loop) → 0 < c.args.k - c.loop.counter
some c = omega (arith, c.loop-test.true)

here : (c : In-loop) → CoverOk c.args.s.now c.args.n c.loop.p
here c = (sound_more _ (some c) c.loop.invariant.0).0

-- what was asked of the target is what the cover edge asks of this round
asked : (c : After-within) → let a = c.args in let s = a.s.now in let p = c.loop.p in CoverOk s a.n p
    → c.within.result ≡ meets (bound_of (number 4 s (p + cover_bound_at))) (held (half a.n 0 a.room.now) (number 2 s (p + cover_target_at)))
asked c ok =
    let a = c.args in
    let s = a.s.now in
    let l = c.loop in
    let t = number 2 s (l.p + cover_target_at) in
    let from : 0 + t ≡ t = omega arith in
    let same : get_or l.room t 0 ≡ get_or (half a.n 0 a.room.now) t 0 = (rw from at (sym (half_at a.n 0 l.room t ok.target_named))) ∙ ap (λ (xs : List ℕ). get_or xs t 0) l.invariant.1.this in
    let bound = c.coded-bound.ensures ∙ ap bound_of c.number_at.ensures in
    c.within.ensures
    ∙ ap₂ (λ (b : Bound) (v : ℕ). meets b (held l.room v)) bound c.number_at-target.ensures
    ∙ ap (λ (k : ℕ). meets (bound_of (number 4 s (l.p + cover_bound_at))) (meaning k)) same

pub loop-preserved : goal.loop-preserved
loop-preserved c =
    let a = c.args in
    let l = c.loop in
    let at = (goal.at.loop-preserved c).In-loop in
    let less : a.k - (l.counter + 1) ≡ a.k - l.counter - 1 = omega arith in
    let is = asked (goal.at.loop-preserved c).After-within (here at) in
    elim c.if-within.branch [
      | then-within w ↦
          rw (w.room-is, less, c.number_at-source.ensures)
          ((sound_more _ (some at) l.invariant.0).1, covers_met _ _ _ _ _ _ l.p l.invariant.1 (forth refl refl) c.requires.n_in_bounds (some at) (here at) (by is w.if-within.true))
      | else-within w ↦ rw (w.room-is, less) ((sound_more _ (some at) l.invariant.0).1, covers_unmet _ _ _ _ _ _ l.p l.invariant.1 (some at) (by is w.if-within.false))
    ]

pub returns : goal.returns
returns c = covers_end _ _ _ _ _ _ _ c.loop.invariant.1 (omega arith)
