-- `Notes::note_covers` meets its contract: the first j are noted.
use Prim.Native.Nat.{◌+◌, ◌≤◌}
use mathlib.Core.Path.{refl, subst}
use native.Mathlib.Omega.{arith}
use lib.ListN.{length}
use Rattle.wire.proofs.Stride.{end_wide}
use Rattle.wire.proofs.Parts.{sound_at}
use Rattle.graph.specs.Format.{cover_width}
use Rattle.graph.specs.Layouts.{cover_layout, CoverOk}
use Rattle.notes.proofs.Notes.note_covers.Goals as goal
use Rattle.notes.proofs.Notes.note_covers.Goals.{In-loop-j}

-- the next cover edge fits
here : (c : In-loop-j) → c.loop-j.p + cover_width ≤ length c.args.g.bytes.now
here c =
    let l = c.loop-j in
    let g = c.args.g in
    let L = cover_layout g.bytes.now g.nodes in
    let ok = subst (CoverOk g.bytes.now g.nodes) (end_wide L 8 (λ at. refl) l.j g.at) (sound_at L l.j c.loop-j-test.true g.sound) in
    rw l.invariant.0 ok.inside

pub number_at-v-requires : goal.number_at-v-requires
number_at-v-requires c = omega (arith, here (goal.at.number_at-v-requires c).In-loop-j)
