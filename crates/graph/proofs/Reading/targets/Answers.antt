-- `graph::Reading::targets` meets its contract: behind the fours, whose targets name nodes, the run goes on; the targets that are left fit, end where the
-- loop does, and their run is the run from there.
use Prim.Native.Nat.{ℕ, ◌+◌, ◌*◌, ◌-◌, ◌/◌}
use mathlib.Core.Path.{◌≡◌, refl, sym, ◌∙◌}
use native.Mathlib.Omega.{arith}
use Rattle.wire.proofs.Reading as reading
use Rattle.wire.specs.declared.State.{State}
use Rattle.wire.specs.Reader.{run}
use Rattle.wire.proofs.Turns.{turn_next, turn_refused, turn_none}
use Rattle.graph.specs.Format.{target_width}
use Rattle.graph.specs.Message as m
use Rattle.graph.proofs.Good.{targets_move}
use Rattle.graph.proofs.Names.{Passed, passed, run_past}
use Rattle.graph.proofs.Reading.targets.Invariants.{run_to}
use Rattle.graph.proofs.Reading.targets.Goals as goal
use Rattle.graph.proofs.Reading.targets.Goals.{After-past_fours-at}

-- the targets that were passed
past : (c : After-past_fours-at) → let a = c.args in
    Passed a.self.bytes.now a.self.nodes a.first.at (a.first.at + a.k * target_width) c.past_fours-at.result
past c = let a = c.args in passed a.self.bytes.now a.self.nodes a.first.at (a.first.at + a.k * target_width) (omega arith) c.past_fours-at.ensures

-- where the loop begins, and that the run from there is the whole run
abbrev behind : After-past_fours-at → State
behind c = let first = c.args.first in record { at = c.past_fours-at.result; prev = first.prev; seen = first.seen }

joined : (c : After-past_fours-at) → let a = c.args in
    run_to a.self.bytes.now a.self.nodes (a.first.at + a.k * target_width) (behind c) ≡ run (m.targets a.self.bytes.now a.self.nodes) a.k a.first
joined c =
    let a = c.args in
    let first = a.first in
    let end : ℕ = first.at + a.k * target_width in
    let p = past c in
    let left : (end - c.past_fours-at.result) / target_width ≡ a.k - p.many = omega (arith, p.reached) in
    let rest = run_past _ _ p.many a.k first (omega (arith, p.reached, p.before)) (omega (arith, p.reached, p.before)) p.named in
    (λ i. run (m.targets a.self.bytes.now a.self.nodes) (left i) (record { at = p.reached i; prev = first.prev; seen = first.seen })) ∙ rest

pub loop-st-init : goal.loop-st-init
loop-st-init c =
    let a = c.args in
    let p = past c in
    record {
      left = (a.first.at + a.k * target_width - c.past_fours-at.result) / target_width;
      there = omega (arith, p.reached, p.before);
      inside = omega arith;
      whole = refl;
    }

pub returns-in_err-st : goal.returns-in_err-st
returns-in_err-st c =
    let l = c.loop-st.invariant in
    reading.passed c.from_residual.ensures ∙ turn_refused _ _ _ _ (l.whole ∙ joined (goal.at.returns-in_err-st c).After-past_fours-at) (omega (arith, l.there)) c.in_err-st.ensures

pub loop-st-smaller : goal.loop-st-smaller
loop-st-smaller c = omega (arith, targets_move _ _ _ _ (sym c.in_ok-st.ensures))

pub loop-st-preserved : goal.loop-st-preserved
loop-st-preserved c =
    let l = c.loop-st.invariant in
    record {
      left = l.left - 1;
      there = omega (arith, l.there, targets_move _ _ _ _ (sym c.in_ok-st.ensures));
      inside = l.inside;
      whole = turn_next _ _ _ _ l.whole (omega (arith, l.there)) c.in_ok-st.ensures;
    }

pub returns : goal.returns
returns c =
    turn_none _ _ _ _ (c.loop-st.invariant.whole ∙ joined (goal.at.returns c).After-past_fours-at) (omega (arith, c.loop-st.invariant.there))
