-- `Notes::note` meets its contract: the targets at q are left to note.
use Prim.Native.Nat.{ℕ, ◌+◌, ◌-◌, ◌<◌}
use mathlib.Core.Path.{◌≡◌, ap, subst, ◌∙◌}
use lib.ListN.{set}
use native.Mathlib.Omega.{arith}
use Rattle.wire.specs.Bytes.{number}
use Rattle.wire.specs.Layout.{items, Sound}
use Rattle.wire.proofs.Layouts.{sound_more}
use Rattle.graph.specs.Format.{node_at, target_width}
use Rattle.graph.specs.Layouts.{target_layout}
use Rattle.notes.specs.Index.{slot_of, slot_at, hyper_noted, Noted}
use Rattle.notes.proofs.Noting.{noted_more, noted_end, noted_turn, same_covers_set}
use Rattle.notes.proofs.Notes.note.Goals as goal
use Rattle.notes.proofs.Notes.note.Goals.{In-loop}

-- a target is left
some : (c : In-loop) → 0 < c.args.k - c.loop.counter
some c = omega (arith, c.loop-test.true)

pub loop-preserved : goal.loop-preserved
loop-preserved c =
    let a = c.args in
    let l = c.loop in
    let L = target_layout a.s.now a.n in
    let there = (goal.at.loop-preserved c).In-loop in
    let next = l.q + target_width in
    let left : a.k - l.counter - 1 ≡ a.k - (l.counter + 1) = omega arith in
    let slot_named : c.slot-u.result ≡ slot_of a.n (number 2 a.s.now (l.q + node_at)) = c.slot-u.ensures.0 ∙ ap (slot_of a.n) c.number_at-v.ensures in
    let u = c.slot-u.result in
    let slots = set l.self.slots u (hyper_noted (slot_at l.self.slots u) a.j a.p) in
    let noted = noted_turn a.s.now a.n a.j (noted_more a.s.now a.n _ _ l.invariant.1 (some there)) u slot_named a.p c.requires.p_value in (
      subst (λ (i : ℕ). Sound L i next) left (sound_more _ (some there) l.invariant.0).1,
      rw c.note_hyper.ensures (subst (λ (i : ℕ). Noted a.s.now a.n (a.j + 1) (items L i next) slots) left noted),
      rw c.note_hyper.ensures (same_covers_set l.invariant.2 u a.j a.p (omega (arith, l.invariant.1.all, c.slot-u.ensures.1))),
    )

pub returns-clause-noted : goal.returns-clause-noted
returns-clause-noted c = noted_end _ _ _ _ c.loop.invariant.1 (omega arith)
