-- `edges::hyper_judged` meets its contract.
use Rattle.std.proofs.Common.{ℕ, ◌≡◌, ◌*◌, get_or, refl, ap, subst, ◌∙◌, arith}
use Rattle.lists.proofs.Tests.{clash}
use Rattle.wire.specs.Bytes.{number}
use Rattle.wire.specs.Field.{long_width}
use Rattle.graph.specs.Layouts.{hyper_layout}
use Rattle.support.specs.Claims.{claim_width}
use Rattle.support.proofs.Judging.{HyperRead, hyper_fair, hyper_breaks, hyper_more}
use Rattle.edges.proofs.hyper_judged.Goals as goal
use Rattle.edges.proofs.hyper_judged.Goals.{After-value-claimed}

-- what was read
read : (c : After-value-claimed) → let a = c.args in
    HyperRead a.claims.bytes.now ((hyper_layout a.s.now a.claims.nodes).item a.at) c.value-claimed.result a.given.most
read c = let a = c.args in record {
  claimed_is = c.value-claimed.ensures ∙ ap (λ (v : ℕ). number long_width a.claims.bytes.now (v * claim_width)) c.requires.source_value;
  fits = omega arith;
  given_is = c.requires.given_value;
}

pub returns-then-given-claimed : goal.returns-then-given-claimed
returns-then-given-claimed c = hyper_breaks (read (goal.at.returns-then-given-claimed c).After-value-claimed) c.if-given-claimed.true

pub returns-then-claimed-given : goal.returns-then-claimed-given
returns-then-claimed-given c =
    let r = read (goal.at.returns-then-claimed-given c).After-value-claimed in
    (hyper_fair r (omega (arith, c.if-claimed-given.true)), (λ e. clash e refl, λ e b. absurd (hyper_more r c.if-claimed-given.true b)))

pub returns-then-marks-source-eq1 : goal.returns-then-marks-source-eq1
returns-then-marks-source-eq1 c =
    let r = read (goal.at.returns-then-marks-source-eq1 c).After-value-claimed in
    (hyper_fair r c.if-given-claimed.false, (λ e. clash e refl, λ e b. subst (λ (v : ℕ). get_or c.args.marks.now v 0 ≡ 1) c.requires.source_value c.if-marks-source-eq1.true))

pub returns : goal.returns
returns c =
    (hyper_fair (read (goal.at.returns c).After-value-claimed) c.if-given-claimed.false, (c.hyper_rests.ensures.0, λ e b. absurd (c.hyper_rests.ensures.1 e b)))
