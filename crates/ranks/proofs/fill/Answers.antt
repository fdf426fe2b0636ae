-- `ranks::fill` meets its contract: the rounds settle, the claims are begun from them and ranked, and the words are cleared.
use Rattle.std.proofs.Common.{◌*◌, ◌≤◌, length, refl, length-take-le, arith}
use Rattle.graph.specs.Layouts.{decoded}
use Rattle.graph.specs.Viewed.{decoded_of}
use Rattle.ranks.proofs.Filling.{begun_agree, filled_rooms}
use Rattle.ranks.proofs.fill.Goals as goal

pub rank-requires-clause-agree : goal.rank-requires-clause-agree
unfolding decoded
rank-requires-clause-agree c = let g = c.args.graph in
    begun_agree (decoded_of g) g.ready.closed g.ready.storable c.requires.acyclic c.args.words.now c.run.ensures.value c.run.ensures.room_after c.begin.ensures

pub returns : goal.returns
unfolding decoded
returns c =
    let g = c.args.graph in
    let enough : g.nodes * 8 ≤ length c.run.new.room = omega (arith, c.requires.words_long, c.run.auto.room) in
    filled_rooms (decoded_of g) g.ready.closed g.ready.storable c.requires.acyclic c.run.result c.args.words.now c.run.ensures.room_after c.begin.ensures
    (rw (c.fill.ensures.after (λ y e. e), length-take-le (g.nodes * 8) c.run.new.room enough) refl) c.rank.ensures.kept c.rank.ensures.accepts_claims
