-- `backing::cover_backs` meets its contract.
use Rattle.std.proofs.Common.{ℕ, ◌≡◌, ◌+◌, ◌*◌, ◌≤◌, refl, ap, ◌∙◌, arith}
use borrow.Author.Tests.{ltb-true, ltb-false}
use Rattle.lists.proofs.Tests.{clash}
use Rattle.value.specs.Stored.{infinite}
use Rattle.wire.specs.Bytes.{number}
use Rattle.wire.specs.Field.{long_width}
use Rattle.graph.specs.Format.{cover_target_at}
use Rattle.graph.specs.Layouts.{cover_layout}
use Rattle.support.specs.Claims.{claim_width, claimed_rank}
use Rattle.support.proofs.Judging as Judging
use Rattle.support.proofs.Judging.{CoverRead, cover_idle, cover_breaks}
use Rattle.backing.proofs.cover_backs.Goals as goal
use Rattle.backing.proofs.cover_backs.Goals.{After-holds, After-value}

-- whether the cover edge holds
read : (c : After-holds) → let a = c.args in CoverRead a.claims.bytes.now ((cover_layout a.s.now a.claims.nodes).item a.at) c.holds.result
read c = record { holds_is = c.holds.ensures }

-- what its source claims
claimed : (c : After-value) → let a = c.args in
    (c.value.result ≡ number long_width a.claims.bytes.now (number 2 a.s.now a.at * claim_width)) × (c.value.result ≤ infinite)
claimed c =
    (c.value.ensures ∙ ap (λ (v : ℕ). number long_width c.args.claims.bytes.now (v * claim_width)) c.number_at-source.ensures, omega arith)

pub returns-then-not-holds : goal.returns-then-not-holds
returns-then-not-holds c = (λ e. clash e refl, λ e. (cover_idle (read (goal.at.returns-then-not-holds c).After-holds) c.if-not-holds.true).1)

pub returns-then-value-ne0 : goal.returns-then-value-ne0
returns-then-value-ne0 c =
    let at = goal.at.returns-then-value-ne0 c in
    let (is, fits) = claimed at.After-value in
    (λ e. clash e refl, λ e b. cover_breaks (read at.After-holds) c.if-not-holds.false is fits (omega (arith, c.if-value-ne0.true)) (λ h. b.zero))

pub returns : goal.returns
returns c =
    let at = goal.at.returns c in
    let a = c.args in
    let rank = claimed_rank a.claims.bytes.now in
    let target_rank : c.rank.result ≡ rank (number 2 a.s.now (a.at + cover_target_at)) = c.rank.ensures ∙ ap rank c.number_at-target.ensures in
    let source_rank : c.rank-2.result ≡ rank (number 2 a.s.now a.at) = c.rank-2.ensures ∙ ap rank c.number_at-source.ensures in
    let (is, fits) = claimed at.After-value in (
      λ e. Judging.cover_backs (read at.After-holds) c.if-not-holds.false is fits (omega (arith, c.if-value-ne0.false))
          (omega (arith, ltb-true c.rank.result c.rank-2.result e, target_rank, source_rank)),
      λ e b. omega (arith, ltb-false c.rank.result c.rank-2.result e, target_rank, source_rank, b.lower),
    )
