-- `ranking::rank` meets its contract: the passes stand, until one gives no rank or n ranks are given.
use Rattle.std.proofs.Common.{◌≤◌, refl, arith}
use Rattle.wire.specs.Layout.{end}
use Rattle.wire.proofs.Layouts.{items_length}
use Rattle.rules.specs.Graph.{Hyper, Cover}
use Rattle.graph.specs.Format.{graph_header}
use Rattle.graph.specs.Layouts.{hyper_layout, cover_layout, decoded}
use Rattle.graph.specs.Viewed.{decoded_of}
use Rattle.support.specs.Claims.{claimed_value, claimed_rank}
use Rattle.support.specs.Backing.{HyperBacks, CoverBacks}
use Rattle.ranking.specs.Ranking.{RankedBy}
use Rattle.ranking.proofs.Giving.{ranked_few, steps_grow, passed_ranked}
use Rattle.ranking.proofs.Standing.{Standing, standing_none, standing_hypers, standing_covers, all_ranked, none_ranked}
use Rattle.ranking.proofs.rank.Goals as goal
use Rattle.ranking.proofs.rank.Goals.{After-rank_sources-next, After-rank_sources-more, At-loop}

-- few ranks were given
few : (c : At-loop) → c.loop.given ≤ 4096
unfolding decoded
few c = omega (arith, c.loop.invariant.1.counted, ranked_few c.args.graph.nodes c.loop.claims, c.requires.nodes_few)

pub loop-init : goal.loop-init
unfolding decoded
loop-init c = (omega arith, standing_none _ _ c.requires.none_ranked)

pub rank_sources-more-requires : goal.rank_sources-more-requires
unfolding decoded
rank_sources-more-requires c = record {
  stands = c.args.graph.ready.sound.hypers;
  same_nodes = refl;
  all_inside = omega (arith, c.requires.all_inside, c.loop.auto.claims);
  given_few = omega (arith, few (goal.at.rank_sources-more-requires c).At-loop, c.ranges.graph);
}

-- the ranks that the hyperedges gave, and where they stand behind them
by_hypers : (c : After-rank_sources-more) → RankedBy (decoded_of c.args.graph).hypers (λ (e : Hyper). e.source) (λ b. HyperBacks (claimed_value b) (claimed_rank b))
    c.loop.given c.loop.claims c.rank_sources-more.result c.rank_sources-more.new.claims
unfolding decoded
by_hypers c = let g = c.args.graph in
    passed_ranked (hyper_layout g.bytes.now g.nodes) (λ e. e.source) (λ b. HyperBacks (claimed_value b) (claimed_rank b)) g.hypers graph_header c.rank_sources-more.ensures

hypers : (c : After-rank_sources-more) → c.loop.given ≤ 4096 → Standing (decoded_of c.args.graph) c.args.claims.now c.rank_sources-more.result c.rank_sources-more.new.claims
unfolding decoded
hypers c few = let g = c.args.graph in
    standing_hypers (decoded_of g) g.ready.closed c.requires.all_inside c.loop.invariant.1 (by_hypers c)
    (omega (arith, few, c.ranges.graph, items_length (hyper_layout g.bytes.now g.nodes) g.hypers graph_header))

few_more : (c : After-rank_sources-more) → c.loop.given ≤ 4096 → c.rank_sources-more.result ≤ 4096
unfolding decoded
few_more c few = omega (arith, (hypers c few).counted, ranked_few c.args.graph.nodes c.rank_sources-more.new.claims, c.requires.nodes_few)

pub rank_sources-next-requires : goal.rank_sources-next-requires
unfolding decoded
rank_sources-next-requires c =
    let here = goal.at.rank_sources-next-requires c in
    let few = few here.At-loop in
    record {
      stands = rw c.args.graph.behind c.args.graph.ready.sound.covers;
      same_nodes = refl;
      all_inside = omega (arith, c.requires.all_inside, (hypers here.After-rank_sources-more few).kept.same_length);
      given_few = omega (arith, few_more here.After-rank_sources-more few, c.ranges.graph);
    }

-- the same of the cover edges
by_covers : (c : After-rank_sources-next) → RankedBy (decoded_of c.args.graph).covers (λ (e : Cover). e.source) (λ b. CoverBacks (claimed_value b) (claimed_rank b))
    c.rank_sources-more.result c.rank_sources-more.new.claims c.rank_sources-next.result c.rank_sources-next.new.claims
unfolding decoded
by_covers c = let g = c.args.graph in
    rw g.behind at (passed_ranked (cover_layout g.bytes.now g.nodes) (λ (e : Cover). e.source) (λ b. CoverBacks (claimed_value b) (claimed_rank b)) g.covers g.middle
    c.rank_sources-next.ensures)

covers : (c : After-rank_sources-next) → Standing (decoded_of c.args.graph) c.args.claims.now c.rank_sources-more.result c.rank_sources-more.new.claims
    → c.rank_sources-more.result ≤ 4096 → Standing (decoded_of c.args.graph) c.args.claims.now c.rank_sources-next.result c.rank_sources-next.new.claims
unfolding decoded
covers c before few = let g = c.args.graph in
    standing_covers (decoded_of g) g.ready.closed c.requires.all_inside before (by_covers c)
    (omega (arith, few, c.ranges.graph, items_length (cover_layout g.bytes.now g.nodes) g.covers (end (hyper_layout g.bytes.now g.nodes) g.hypers graph_header)))

pub returns-then-next-given : goal.returns-then-next-given
unfolding decoded
returns-then-next-given c =
    let here = goal.at.returns-then-next-given c in
    let g = c.args.graph in
    let few = few here.At-loop in
    let more = here.After-rank_sources-more in
    let stands = covers here.After-rank_sources-next (hypers more few) (few_more more few) in
    record {
      kept = stands.kept;
      accepts_claims = none_ranked (decoded_of g) g.ready.closed c.requires.all_inside c.requires.agree c.requires.acyclic stands (by_hypers more)
          (by_covers here.After-rank_sources-next) c.if-next-given.true;
    }

pub loop-preserved : goal.loop-preserved
loop-preserved c =
    let here = goal.at.loop-preserved c in
    let few = few here.At-loop in
    let more = here.After-rank_sources-more in (
      omega (arith, c.loop.invariant.0, c.if-next-given.false, steps_grow (by_hypers more).steps, steps_grow (by_covers here.After-rank_sources-next).steps),
      covers here.After-rank_sources-next (hypers more few) (few_more more few),
    )

pub returns : goal.returns
unfolding decoded
returns c = let g = c.args.graph in record {
  kept = c.loop.invariant.1.kept;
  accepts_claims = all_ranked (decoded_of g) g.ready.closed c.requires.all_inside c.requires.agree c.loop.invariant.1 (omega (arith, c.loop.invariant.0, c.loop-test.false));
}
