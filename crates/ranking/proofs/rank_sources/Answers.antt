-- `ranking::rank_sources` meets its contract: what is passed from here on is passed of the whole, with what was passed before.
use Rattle.std.proofs.Common.{◌≡◌, ℕ, ◌+◌, ◌-◌, ◌<◌, List, sym, ap, ◌∙◌, arith}
use Rattle.support.specs.Claims.{claimed_rank}
use Rattle.ranking.proofs.Giving.{passed_gives, passed_had, passed_idle, passed_over}
use Rattle.ranking.proofs.rank_sources.Goals as goal
use Rattle.ranking.proofs.rank_sources.Goals.{then-rank+then-backs, then-rank+else-backs, else-rank}

pub loop-preserved : goal.loop-preserved
loop-preserved g c =
    let l = c.loop in
    let left = c.args.k - l.counter in
    let some : 0 < left = omega (arith, c.loop-test.true) in
    let fewer : c.args.k - (l.counter + 1) ≡ left - 1 = omega arith in
    let edge = c.edge-edge.ensures in
    let rank_is : c.rank.result ≡ claimed_rank l.claims (g.E.Backers.source_at c.args.edges l.at) =
    c.rank.ensures ∙ ap (λ (b : List ℕ). claimed_rank b c.edge-edge.result.source) c.new-lent.ensures.0 ∙ ap (claimed_rank l.claims) edge.of_source in
    let stands : g.E.Backers.sound c.args.edges (c.args.k - (l.counter + 1)) c.edge-edge.result.next = rw (fewer, edge.of_next) (g.met.E.Backers.goes_on c.args.edges left l.at some l.invariant.stands) in
    elim c.if-rank.branch [
      | then-rank+then-backs w ↦ record {
        stands = stands;
        few = omega (arith, w.next-is, l.invariant.few);
        same_length = c.if-rank.auto.claims ∙ l.invariant.same_length;
        whole = λ given b h. l.invariant.whole given b (passed_gives left some (sym rank_is ∙ w.if-rank.true) (rw c.new-lent.ensures.0 at (w.backs.ensures.0 w.if-backs.true))
            (rw (fewer, edge.of_next, w.next-is, w.claims-is, w.store_long.ensures, edge.of_source) at h));
      }
      | then-rank+else-backs w ↦ record {
        stands = stands;
        few = omega (arith, w.next-is, l.invariant.few);
        same_length = c.if-rank.auto.claims ∙ l.invariant.same_length;
        whole = λ given b h. l.invariant.whole given b (passed_idle left some (rw c.new-lent.ensures.0 at (w.backs.ensures.1 w.if-backs.false))
            (rw (fewer, edge.of_next, w.next-is, w.claims-is) at h));
      }
      | else-rank w ↦ record {
        stands = stands;
        few = omega (arith, w.next-is, l.invariant.few);
        same_length = c.if-rank.auto.claims ∙ l.invariant.same_length;
        whole = λ given b h. l.invariant.whole given b (passed_had left some (omega (arith, rank_is, w.if-rank.false)) (rw (fewer, edge.of_next, w.next-is, w.claims-is) at h));
      }
    ]

pub returns : goal.returns
returns g c = c.loop.invariant.whole c.loop.next c.loop.claims (passed_over (c.args.k - c.loop.counter) (omega (arith, c.loop-test.false)))
