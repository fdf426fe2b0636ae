-- `graph::Reading::covers` meets its contract: each begins inside, and the source before it is at most n.
use Rattle.std.proofs.Common.{◌≡◌, ◌≤◌, length, arith, rules}
use Rattle.wire.specs.Read.{Ok}
use Rattle.wire.specs.Reader.{one}
use Rattle.wire.proofs.Runs.{may_run, runs_are}
use Rattle.graph.specs.Message as m
use Rattle.graph.proofs.Good.{covers_stay}
use Rattle.graph.proofs.Reading.covers.Goals as goal

pub run-requires : goal.run-requires
run-requires c =
    let a = c.args in
    may_run _ _ (λ k st. (st.at ≤ length a.self.bytes.now) × (st.prev ≤ a.self.nodes)) (λ k st in_it. let here = in_it.0 in let most = in_it.1 in search rules)
    (λ k st next in_it read.
    let is : one (m.covers a.self.bytes.now a.self.nodes) st ≡ Ok next = search rules in
    let stay = covers_stay _ _ _ _ is in
    (stay.0, omega (arith, stay.1))) a.k a.first c.requires

pub returns : goal.returns
returns c = runs_are (m.covers c.args.self.bytes.now c.args.self.nodes) (λ st r read. search rules) c.run.ensures
