-- `scans::scan` meets its contract: what is found from here on is found of the whole, with what was found before.
use Rattle.std.proofs.Common.{◌≡◌, ◌+◌, ◌-◌, ◌<◌, Bool, cond, None, set, sym, ap, ◌∙◌, arith}
use Rattle.claims.specs.Chain.{marks_behind}
use Rattle.claims.proofs.Marking.{chain_more, chain_odd, chain_past}
use Rattle.claims.proofs.scans.scan.Goals as goal
use Rattle.claims.proofs.scans.scan.Goals.{then-edge, else-edge}

pub loop-init : goal.loop-init
loop-init g c = let all : c.args.k - 0 ≡ c.args.k = omega arith in rw c.start-state.ensures
    (record { readable = rw all c.requires; whole = λ r b h. rw all at h })

pub edge-requires : goal.edge-requires
edge-requires g c = (c.args.k - c.loop.counter, omega (arith, c.loop-test.true), c.loop.invariant.readable)

pub returns-in_err-edge : goal.returns-in_err-edge
returns-in_err-edge g c = rw c.from_residual.ensures
    (c.loop.invariant.whole None c.loop.marks (chain_odd (c.args.k - c.loop.counter) (omega (arith, c.loop-test.true)) c.in_err-edge.ensures))

pub bounds-marks-state : goal.bounds-marks-state
bounds-marks-state g c =
    (g.met.E.Edges.leads c.args.edges (c.args.k - c.loop.counter) c.loop.marks c.loop.state c.in_ok-edge.edge (omega (arith, c.loop-test.true)) c.loop.invariant.readable
    c.in_ok-edge.ensures).0

pub loop-preserved : goal.loop-preserved
loop-preserved g c =
    let left = c.args.k - c.loop.counter in
    let some : 0 < left = omega (arith, c.loop-test.true) in
    let fewer : c.args.k - (c.loop.counter + 1) ≡ left - 1 = omega arith in
    let next = c.in_ok-edge.edge in
    let behind : c.if-edge.marks ≡ marks_behind next c.loop.marks = elim c.if-edge.branch [
      | then-edge w ↦ w.marks-is ∙ sym (ap (λ (t : Bool). cond t (set c.loop.marks next.next.prev 1) c.loop.marks) w.if-edge.true)
      | else-edge w ↦ w.marks-is ∙ sym (ap (λ (t : Bool). cond t (set c.loop.marks next.next.prev 1) c.loop.marks) w.if-edge.false)
    ] in
    record {
      readable = rw fewer (g.met.E.Edges.leads c.args.edges left c.loop.marks c.loop.state next some c.loop.invariant.readable c.in_ok-edge.ensures).1;
      whole = λ r b h. c.loop.invariant.whole r b (chain_more left next some c.in_ok-edge.ensures (rw (fewer, behind) at h));
    }

pub returns : goal.returns
returns g c = c.loop.invariant.whole _ c.loop.marks (chain_past (c.args.k - c.loop.counter) (omega (arith, c.loop-test.false)))
