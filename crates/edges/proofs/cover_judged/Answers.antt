-- `edges::cover_judged` meets its contract.
use Rattle.std.proofs.Common.{ℕ, ◌≡◌, ◌+◌, ◌*◌, ◌≤◌, refl, ap, ◌∙◌, arith}
use borrow.Author.Tests.{ltb-true, ltb-false}
use Rattle.lists.proofs.Tests.{clash}
use Rattle.value.specs.Stored.{infinite}
use Rattle.wire.specs.Bytes.{number}
use Rattle.wire.specs.Field.{long_width}
use Rattle.graph.specs.Format.{cover_target_at}
use Rattle.graph.specs.Layouts.{cover_layout}
use Rattle.support.specs.Claims.{claim_width, claimed_rank}
use Rattle.support.proofs.Judging.{CoverRead, cover_idle, cover_breaks, cover_fair, cover_backs}
use Rattle.edges.proofs.cover_judged.Goals as goal
use Rattle.edges.proofs.cover_judged.Goals.{After-holds, After-value}

-- whether the cover edge holds
read : (c : After-holds) → let a = c.args in CoverRead a.claims.bytes.now ((cover_layout a.s.now a.claims.nodes).item a.at) c.holds.result
read c = record { holds_is = c.holds.ensures }

-- what its source claims
claimed : (c : After-value) → let a = c.args in
    (c.value.result ≡ number long_width a.claims.bytes.now (number 2 a.s.now a.at * claim_width)) × (c.value.result ≤ infinite)
claimed c =
    (c.value.ensures ∙ ap (λ (v : ℕ). number long_width c.args.claims.bytes.now (v * claim_width)) c.requires.source_value, omega arith)

pub returns-then-not-holds : goal.returns-then-not-holds
returns-then-not-holds c =
    let idle = cover_idle (read (goal.at.returns-then-not-holds c).After-holds) c.if-not-holds.true in (idle.0, (λ e. clash e refl, λ e b. absurd (idle.1 b)))

pub returns-then-value-gt0 : goal.returns-then-value-gt0
returns-then-value-gt0 c =
    let at = goal.at.returns-then-value-gt0 c in
    let (is, fits) = claimed at.After-value in cover_breaks (read at.After-holds) c.if-not-holds.false is fits c.if-value-gt0.true

pub returns : goal.returns
returns c =
    let at = goal.at.returns c in
    let a = c.args in
    let rank = claimed_rank a.claims.bytes.now in
    let target_rank : c.rank.result ≡ rank (number 2 a.s.now (a.at + cover_target_at)) = c.rank.ensures ∙ ap rank c.requires.target_value in
    let source_rank : c.rank-2.result ≡ rank (number 2 a.s.now a.at) = c.rank-2.ensures ∙ ap rank c.requires.source_value in
    let none : c.value.result ≤ 0 = omega (arith, c.if-value-gt0.false) in
    let (is, fits) = claimed at.After-value in (
      λ h. cover_fair (read at.After-holds) c.if-not-holds.false is fits none,
      (
        λ e. cover_backs (read at.After-holds) c.if-not-holds.false is fits none (omega (arith, ltb-true c.rank.result c.rank-2.result e, target_rank, source_rank)),
        λ e b. omega (arith, ltb-false c.rank.result c.rank-2.result e, target_rank, source_rank, b.lower),
      ),
    )
