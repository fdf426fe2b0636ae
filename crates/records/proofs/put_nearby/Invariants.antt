-- `records::put_nearby` meets its contract: what is written for the transitions left, those that are looked at, makes the whole.
use Prim.Native.Nat.{ℕ, ◌+◌, ◌*◌, ◌-◌, ◌<◌}
use mathlib.Core.List.{List}
use mathlib.Core.Bool.{true}
use mathlib.Core.Path.{◌≡◌}
use Rattle.model.specs.Format.{transition_width, transition_at}
use Rattle.model.specs.Model.{Transition}
use Rattle.syntax.specs.declared.Quantifier.{Quantifier}
use Rattle.transitions.specs.Held.{transition_layout}
use Rattle.transitions.specs.Views.{list_of, is_near_by}
use Rattle.transitions.proofs.Counting.{passing}
use Rattle.records.specs.Bytes.{near_bytes, nearby_bytes}
use Rattle.records.proofs.Edges.{Filling}
use Rattle.records.proofs.Nearby.{near}
use Rattle.records.proofs.put_nearby.Given as goal

-- the bytes of one transition
abbrev pub one : Quantifier → (v shift : ℕ) → Transition → List ℕ
one q v shift u = near_bytes q v (u.to + shift)

-- what is left is to be filled in, the last of it is looked at, and those counted with those to come make the whole
abbrev pub invariant-loop : goal.invariant-loop
invariant-loop l =
    let out = l.out in
    let look = l.look in
    let test = is_near_by look in
    let L = transition_layout out.bytes.now in
    let left = l.upto - l.counter in
    Filling out.bytes.now out.states (near test (one l.q l.v l.shift)) l.initial.room l.at (nearby_bytes l.q l.v look.low look.high look.most l.shift (list_of out)) l.room (l.at + l.near * l.width) l.p left
    × (0 < left → test (L.item (l.p + (left - 1) * transition_width)) ≡ true) × (l.near + passing L test left l.p ≡ passing L test out.many (transition_at out.states out.first))
