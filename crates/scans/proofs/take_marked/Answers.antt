-- `scans::take_marked` meets its contract: the part of the cover edges that is marked, or none.
use Prim.Native.Nat.{◌+◌, ◌*◌}
use mathlib.Core.Path.{refl, sym}
use native.Mathlib.Omega.{arith}
use Rattle.graph.specs.Format.{cover_width}
use Rattle.graph.specs.Layouts.{cover_layout}
use Rattle.scans.proofs.Next.{none_covered}
use Rattle.wire.proofs.Stride.{end_wide}
use Rattle.wire.proofs.Parts.{part_sound}
use Rattle.scans.proofs.take_marked.Goals as goal

pub take_covers-requires-clause-sound : goal.take_covers-requires-clause-sound
take_covers-requires-clause-sound c =
    let a = c.args in
    let g = a.g in
    let L = cover_layout g.bytes.now g.nodes in
    part_sound L g.count g.at a.a a.z (g.at + a.a * cover_width) c.requires.z_le_count (λ l. sym (end_wide L 8 (λ at. refl) a.a g.at)) g.sound

pub returns-else-a-z : goal.returns-else-a-z
returns-else-a-z c = none_covered _ _ _ _ _ _ _ (omega arith)
