-- `chains::given` meets its contract: what is asked of the record is asked on its side of the middle.
use Prim.Native.Nat.{ℕ}
use mathlib.Core.Bool.{Bool, cond}
use mathlib.Core.Path.{◌≡◌, sym, ap, ap₂, ◌∙◌}
use native.Mathlib.Omega.{arith}
use Rattle.lists.proofs.Tests.{by}
use Rattle.value.specs.declared.Bound.{Bound}
use Rattle.value.specs.Value.{meets}
use Rattle.value.specs.Stored.{infinite}
use Rattle.value.specs.Coded.{bound_of}
use Rattle.rules.specs.Rounds.{cover_holds}
use Rattle.graph.specs.Layouts.{cover_layout}
use Rattle.halves.specs.Held.{held}
use Rattle.chains.specs.Taken.{given_at}
use Rattle.chains.proofs.Taking.{given_worst, given_cover}
use Rattle.chains.proofs.given.Goals as goal
use Rattle.chains.proofs.given.Goals.{After-within}

-- what was tested is whether the cover edge holds, and so what it gives
holds : (c : After-within) → c.within.result ≡ cover_holds (held c.args.x.now) ((cover_layout c.args.g.bytes.now c.args.g.nodes).item c.args.at)
holds c =
    let bound = c.coded-bound.ensures ∙ ap bound_of c.number_at.ensures in
    c.within.ensures ∙ ap₂ (λ (b : Bound) (v : ℕ). meets b (held c.args.x.now v)) bound c.number_at-target.ensures

gives : (c : After-within) {t : Bool} → c.within.result ≡ t → cond t 0 infinite ≡ given_at c.args.g.bytes.now c.args.g.nodes c.args.g.middle c.args.at c.args.x.now
gives c e =
    let a = c.args in
    sym (given_cover a.g.bytes.now a.g.nodes a.g.middle a.at a.x.now (omega (arith, c.if-at-g.false)) ∙ ap (λ (t : Bool). cond t 0 infinite) (by (holds c) e))

pub returns-then-within : goal.returns-then-within
returns-then-within c = gives (goal.at.returns-then-within c).After-within c.if-within.true

pub returns-then-at-g : goal.returns-then-at-g
returns-then-at-g c =
    let a = c.args in
    given_worst a.g.bytes.now a.g.nodes a.g.middle a.at a.x.now c.if-at-g.true c.number_at-count.ensures c.worst.ensures

pub returns-else-within : goal.returns-else-within
returns-else-within c = gives (goal.at.returns-else-within c).After-within c.if-within.false
