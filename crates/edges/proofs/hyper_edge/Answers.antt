-- `edges::hyper_edge` meets its contract: past the tests the graph's reading is good, and a test that fails would have failed it.
use Rattle.std.proofs.Common.{ℕ, ◌≡◌, ◌+◌, ◌*◌, ◌≤◌, sym, ap, ◌∙◌, arith}
use Rattle.lists.proofs.Tests.{by, clash}
use Rattle.value.specs.Stored.{stored}
use Rattle.wire.specs.Bytes.{number}
use Rattle.wire.specs.Layout.{items, Sound}
use Rattle.wire.specs.Read.{Ok}
use Rattle.wire.specs.Reader.{one}
use Rattle.wire.specs.declared.State.{State}
use Rattle.wire.proofs.Bytes.{number_below}
use Rattle.wire.proofs.Reading.{follows_both, both_follow}
use Rattle.rules.specs.Rounds.{worst}
use Rattle.graph.specs.Message.{hypers}
use Rattle.graph.specs.Format.{target_count_at, hyper_width, target_width}
use Rattle.graph.specs.Layouts.{target_layout}
use Rattle.graph.proofs.Fused.{HyperFits, hyper_reads, hyper_fits}
use Rattle.support.specs.Claims.{claimed_value}
use Rattle.edges.proofs.hyper_edge.Goals as goal
use Rattle.edges.proofs.hyper_edge.Goals.{After-number_at-count, In_ok-given, Start}

-- what a good reading says
good_fits : (b : Start) {next : State} → one (hypers b.args.s.now b.args.claims.nodes) b.args.state ≡ Ok next
    → HyperFits b.args.s.now b.args.claims.nodes b.args.state
good_fits b e = hyper_fits b.args.s.now b.args.claims.nodes b.args.state e

-- the count is a number of 2 bytes
small : (c : After-number_at-count) → c.number_at-count.result ≤ 65535
small c =
    omega (arith, c.number_at-count.ensures, number_below 2 c.args.s.now (c.args.state.at + target_count_at) (λ i. omega (arith, c.type_inv.s i)))

-- the targets are sound, and give so much
targets : (c : In_ok-given) → let a = c.args in let L = target_layout a.s.now a.claims.nodes in let first = a.state.at + hyper_width in
    let count = number 2 a.s.now (a.state.at + target_count_at) in
    Sound L count first × (c.in_ok-given.given.most ≡ stored (worst (claimed_value a.claims.bytes.now) (items L count first)))
    × (c.in_ok-given.given.end ≡ first + count * target_width)
targets c =
    let (sound, gives, ends) = c.in_ok-given.ensures (number 2 c.args.s.now (c.args.state.at + target_count_at)) (omega (arith, c.number_at-count.ensures)) in
    (sound, gives, ends ∙ ap (λ (k : ℕ). c.args.state.at + hyper_width + k * target_width) c.number_at-count.ensures)

-- the tests are those of the reading
fits : (c : In_ok-given) → HyperFits c.args.s.now c.args.claims.nodes c.args.state
fits c =
    let order = follows_both c.number_at-source.result c.args.claims.nodes c.args.state.prev (by c.follows.ensures c.if-not-follows.false) in
    let count : c.number_at-count.result ≡ number 2 c.args.s.now (c.args.state.at + target_count_at) = c.number_at-count.ensures in
    record {
      ok = record { inside = omega (arith, c.if-s-first.false); named = omega (arith, order.0, c.number_at-source.ensures); sound = (targets c).0 };
      ordered = omega (arith, order.1, c.number_at-source.ensures);
      few = omega (arith, c.if-seen-gt-MOST_TARGETS.false);
      inside = omega (arith, c.if-s-end.false);
    }

pub returns-then-s-first : goal.returns-then-s-first
returns-then-s-first c next e fair = omega (arith, c.if-s-first.true, (good_fits (goal.at.returns-then-s-first c).Start e).ok.inside)

pub returns-then-not-follows : goal.returns-then-not-follows
returns-then-not-follows c next e fair =
    let f = good_fits (goal.at.returns-then-not-follows c).Start e in
    let source = c.number_at-source in
    let passed = both_follow source.result c.args.claims.nodes c.args.state.prev (omega (arith, source.ensures, f.ok.named)) (omega (arith, source.ensures, f.ordered)) in
    clash (c.follows.ensures ∙ passed) c.if-not-follows.true

pub returns-then-seen-gt-MOST_TARGETS : goal.returns-then-seen-gt-MOST_TARGETS
returns-then-seen-gt-MOST_TARGETS c next e fair =
    omega (arith, c.if-seen-gt-MOST_TARGETS.true, c.number_at-count.ensures, (good_fits (goal.at.returns-then-seen-gt-MOST_TARGETS c).Start e).few)

pub returns-then-s-end : goal.returns-then-s-end
returns-then-s-end c next e fair =
    omega (arith, c.if-s-end.true, c.number_at-count.ensures, (good_fits (goal.at.returns-then-s-end c).Start e).inside)

pub returns-in_err-given : goal.returns-in_err-given
returns-in_err-given c = rw c.from_residual.ensures λ next e fair.
    c.in_err-given.ensures (number 2 c.args.s.now (c.args.state.at + target_count_at)) (omega (arith, c.number_at-count.ensures))
    (good_fits (goal.at.returns-in_err-given c).Start e).ok.sound

pub hyper_judged-requires : goal.hyper_judged-requires
hyper_judged-requires c =
    let t = targets c in record { hyper_ok = (fits c).ok; source_value = c.number_at-source.ensures; given_value = t.1; given_end = t.2; nodes_few = c.requires.nodes_few }

pub returns-in_err-backs : goal.returns-in_err-backs
returns-in_err-backs c = rw c.from_residual-in_err-backs.ensures (λ next e. c.in_err-backs.ensures)

pub returns : goal.returns
returns c =
    let given = (goal.at.returns c).In_ok-given in
    let a = c.args in
    let past : a.state.at + hyper_width + number 2 a.s.now (a.state.at + target_count_at) * target_width ≡ c.in_ok-given.given.end = sym (targets given).2 in
    let reads : one (hypers a.s.now a.claims.nodes) a.state
    ≡ Ok (record { at = c.in_ok-given.given.end; seen = a.state.seen + c.number_at-count.result; prev = c.number_at-source.result }) =
    hyper_reads a.s.now a.claims.nodes a.state (fits given)
    ∙ (λ i. Ok (record { at = past i; prev = sym c.number_at-source.ensures i; seen = a.state.seen + sym c.number_at-count.ensures i })) in
    (reads, c.in_ok-backs.ensures.0, c.in_ok-backs.ensures.1)
