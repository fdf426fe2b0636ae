-- `backing::hyper_rests` meets its contract.
use Rattle.std.proofs.Common.{ℕ, ◌≡◌, ◌+◌, ◌*◌, ◌<◌, refl, sym, ap, subst, ◌∙◌, arith}
use Rattle.rules.specs.Graph.{Target}
use Rattle.lists.specs.Lists.{◌∈◌}
use Rattle.lists.proofs.Tests.{clash}
use Rattle.wire.specs.Bytes.{number}
use Rattle.wire.specs.Field.{long_width}
use Rattle.wire.specs.Layout.{items}
use Rattle.graph.specs.Format.{target_count_at, hyper_width, target_width}
use Rattle.graph.specs.Layouts.{target_layout, hyper_layout}
use Rattle.support.specs.Claims.{claim_width, claimed_rank}
use Rattle.support.proofs.Judging as Judging
use Rattle.support.proofs.Judging.{HyperRead, hyper_other, hyper_infinite}
use Rattle.backing.proofs.hyper_rests.Goals as goal
use Rattle.backing.proofs.hyper_rests.Goals.{After-value-claimed, Start}

-- what was read
read : (c : After-value-claimed) → let a = c.args in
    HyperRead a.claims.bytes.now ((hyper_layout a.s.now a.claims.nodes).item a.at) c.value-claimed.result a.given.most
read c = let a = c.args in record {
  claimed_is = c.value-claimed.ensures ∙ ap (λ (v : ℕ). number long_width a.claims.bytes.now (v * claim_width)) c.requires.source_value;
  fits = omega arith;
  given_is = c.requires.given_value;
}

-- how many targets there are, and where they end
abbrev count : Start → ℕ
count b = number 2 b.args.s.now (b.args.at + target_count_at)

ends : (b : Start) → b.args.at + hyper_width + count b * target_width ≡ b.args.given.end
ends b = omega (arith, b.requires.given_end)

-- all targets of the hyperedge have a rank below this
abbrev Lower : Start → ℕ → Type 0
Lower b rank = let a = b.args in
    (t : Target) → t ∈ items (target_layout a.s.now a.claims.nodes) (count b) (a.at + hyper_width) → claimed_rank a.claims.bytes.now t.node < rank

pub returns-then-given-claimed : goal.returns-then-given-claimed
returns-then-given-claimed c = let at = goal.at.returns-then-given-claimed c in (λ e. clash e refl, λ e. hyper_other (read at.After-value-claimed) c.if-given-claimed.true)

pub returns-then-claimed : goal.returns-then-claimed
returns-then-claimed c = let at = goal.at.returns-then-claimed c in (λ e. clash e refl, λ e. hyper_infinite (read at.After-value-claimed) c.if-claimed.true)

pub returns : goal.returns
returns c =
    let at = goal.at.returns c in
    let r = read at.After-value-claimed in
    let found = c.ranks_below.ensures (count at.Start) (ends at.Start) in
    let rank_is : c.rank.result ≡ claimed_rank c.args.claims.bytes.now (number 2 c.args.s.now c.args.at) =
    c.rank.ensures ∙ ap (claimed_rank c.args.claims.bytes.now) c.requires.source_value in (
      λ e. Judging.hyper_backs r (omega (arith, c.if-given-claimed.false)) (omega (arith, c.if-given-claimed.false)) c.if-claimed.false
          (subst (Lower at.Start) rank_is (found.0 e)),
      λ e k. found.1 e (subst (Lower at.Start) (sym rank_is) k.lower),
    )
