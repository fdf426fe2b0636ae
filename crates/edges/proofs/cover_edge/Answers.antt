-- `edges::cover_edge` meets its contract: past the tests the graph's reading is good, and a test that fails would have failed it.
use Rattle.std.proofs.Common.{ℕ, ◌≡◌, ◌+◌, sym, ap, ◌∙◌, arith}
use Rattle.lists.proofs.Tests.{by, clash}
use Rattle.wire.specs.Read.{Ok}
use Rattle.wire.specs.Reader.{one}
use Rattle.wire.proofs.Reading.{follows_both, both_follow}
use Rattle.graph.specs.Message.{covers}
use Rattle.graph.specs.Format.{cover_width}
use Rattle.graph.proofs.Fused.{CoverFits, cover_reads, cover_fits}
use Rattle.edges.proofs.cover_edge.Goals as goal
use Rattle.edges.proofs.cover_edge.Goals.{Else-n-target}

-- the tests are those of the reading
fits : (c : Else-n-target) → CoverFits c.args.s.now c.args.claims.nodes c.args.state
fits c =
    let order = follows_both c.number_at-source.result c.args.claims.nodes c.args.state.prev (by c.follows.ensures c.if-not-follows.false) in
    record {
      ok = record {
        inside = c.requires.at_inside;
        named = omega (arith, c.number_at-source.ensures, order.0);
        target_named = omega (arith, c.number_at-target.ensures, c.if-n-target.false);
      };
      ordered = omega (arith, c.number_at-source.ensures, order.1);
    }

pub returns-then-not-follows : goal.returns-then-not-follows
returns-then-not-follows c next e fair =
    let a = c.args in
    let f = cover_fits a.s.now a.claims.nodes a.state e in
    let source = c.number_at-source in
    let passed = both_follow source.result a.claims.nodes a.state.prev (omega (arith, source.ensures, f.ok.named)) (omega (arith, source.ensures, f.ordered)) in
    clash (c.follows.ensures ∙ passed) c.if-not-follows.true

pub returns-then-n-target : goal.returns-then-n-target
returns-then-n-target c next e fair =
    let a = c.args in omega (arith, c.number_at-target.ensures, c.if-n-target.true, (cover_fits a.s.now a.claims.nodes a.state e).ok.target_named)

pub cover_judged-requires : goal.cover_judged-requires
cover_judged-requires c = record { cover_ok = (fits c).ok; source_value = c.number_at-source.ensures; target_value = c.number_at-target.ensures }

pub returns-in_err-backs : goal.returns-in_err-backs
returns-in_err-backs c = rw c.from_residual.ensures (λ next e. c.in_err-backs.ensures)

pub returns : goal.returns
returns c =
    let a = c.args in
    let reads : one (covers a.s.now a.claims.nodes) a.state ≡ Ok (record { at = a.state.at + cover_width; prev = c.number_at-source.result; seen = a.state.seen }) =
    cover_reads a.s.now a.claims.nodes a.state (fits (goal.at.returns c).Else-n-target)
    ∙ ap (λ (v : ℕ). Ok (record { at = a.state.at + cover_width; prev = v; seen = a.state.seen })) (sym c.number_at-source.ensures) in
    (reads, c.in_ok-backs.ensures.0, c.in_ok-backs.ensures.1)
