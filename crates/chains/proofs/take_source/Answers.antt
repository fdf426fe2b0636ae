-- `chains::take_source` meets its contract: the source is listed where it had not changed, and does now, and there is room for it.
use Prim.Native.Nat.{◌<◌}
use mathlib.Core.Path.{sym}
use native.Mathlib.Omega.{arith}
use Rattle.chains.proofs.Taking.{source_falls}
use Rattle.changes.proofs.Listing.{listed_stays, listed_room, listed_source}
use Rattle.chains.proofs.take_source.Goals as goal
use Rattle.chains.proofs.take_source.Goals.{Else-was-this}

pub returns-then-was-this-clause-listed : goal.returns-then-was-this-clause-listed
returns-then-was-this-clause-listed c =
    let q = c.requires in
    let l = source_falls _ _ _ _ q.both_halves q.source_named.0 c.if-was-value.false in
    listed_stays q.listed q.source_named.0 l.0 (λ e. absurd (c.if-was-this.true (sym e)))

room : (c : Else-was-this) → c.args.many < c.args.g.nodes
room c =
    let q = c.requires in
    let l = source_falls _ _ _ _ q.both_halves q.source_named.0 c.if-was-value.false in
    listed_room q.listed q.source_named.0 l.0 (omega (arith, c.if-was-this.false)) l.1

pub offset_bounds-nodes-many : goal.offset_bounds-nodes-many
offset_bounds-nodes-many c = omega (arith, room c, c.requires.small)

pub bounds-nodes-many : goal.bounds-nodes-many
bounds-nodes-many c = omega (arith, room (goal.at.bounds-nodes-many c).Else-was-this, c.requires.listed.long)

pub overflow_add-result : goal.overflow_add-result
overflow_add-result c = omega (arith, room (goal.at.overflow_add-result c).Else-was-this, c.requires.small)

pub returns-clause-listed : goal.returns-clause-listed
returns-clause-listed c =
    let q = c.requires in
    let l = source_falls _ _ _ _ q.both_halves q.source_named.0 c.if-was-value.false in
    listed_source q.listed q.source_named.0 l.0 (omega (arith, c.if-was-this.false)) l.1 (omega (arith, room (goal.at.returns-clause-listed c).Else-was-this, q.listed.long))
