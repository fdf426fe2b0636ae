-- `scans::take_hypers` meets its contract: what is left to do to each next number makes it what it is to be.
use Prim.Native.Nat.{ℕ, ◌+◌, ◌*◌}
use mathlib.Core.Path.{refl, sym, ap, ◌∙◌}
use native.Mathlib.Omega.{arith}
use Rattle.graph.specs.Format.{hyper_width, target_width}
use Rattle.scans.specs.Scan.{forth}
use Rattle.scans.proofs.Infinite.{stays_infinite}
use Rattle.scans.proofs.Scan.{left_turn, left_none, lowered_fits}
use Rattle.scans.proofs.take_hypers.Goals as goal

-- how wide a hyperedge of k targets is
abbrev wide : ℕ → ℕ
wide k = hyper_width + k * target_width

pub loop-left-preserved-then-count-last : goal.loop-left-preserved-then-count-last
loop-left-preserved-then-count-last g c =
    let l = c.loop-left in
    let again = sym c.if-count-last.true ∙ c.number_at-count.ensures in
    (left_turn l.invariant.0 (forth refl refl) c.requires.n_in_bounds c.loop-left-test.true c.take_short.ensures (l.invariant.2 ∙ ap wide again) refl, rw c.take_short.ensures (lowered_fits c.args.s.now c.args.n l.p _ l.room l.invariant.1), l.invariant.2)

pub loop-left-preserved-then-count-ge-LONG : goal.loop-left-preserved-then-count-ge-LONG
loop-left-preserved-then-count-ge-LONG g c =
    let l = c.loop-left in
    (left_turn l.invariant.0 (forth refl refl) c.requires.n_in_bounds c.loop-left-test.true c.take_hyper.ensures (ap wide c.number_at-count.ensures) refl, rw c.take_hyper.ensures (lowered_fits c.args.s.now c.args.n l.p _ l.room l.invariant.1), l.invariant.2)

pub loop-left-preserved : goal.loop-left-preserved
loop-left-preserved g c =
    let l = c.loop-left in
    (left_turn l.invariant.0 (forth refl refl) c.requires.n_in_bounds c.loop-left-test.true c.take_short-else-not-this.ensures (ap wide c.number_at-count.ensures) refl, rw c.take_short-else-not-this.ensures (lowered_fits c.args.s.now c.args.n l.p _ l.room l.invariant.1), refl)

pub take_short-requires-else-not-this-clause-all_infinite : goal.take_short-requires-else-not-this-clause-all_infinite
take_short-requires-else-not-this-clause-all_infinite g c f v l = stays_infinite _ _ _ c.loop-left.invariant.0.going.this (c.requires.all_infinite f) v l

pub returns : goal.returns
returns g c = let all = left_none c.loop-left.invariant.0 (omega arith) c.loop-left.invariant.1 in record { value = all.0; done = all.1 }
