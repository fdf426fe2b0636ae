-- `scans::take_covers` meets its contract: what is left to do to each next number makes it what it is to be.
use Prim.Native.Nat.{◌+◌, ◌-◌}
use lib.ListN.{get_or}
use Rattle.wire.specs.Layout.{items, Sound}
use Rattle.graph.specs.Layouts.{cover_layout}
use Rattle.halves.specs.Held.{held}
use Rattle.halves.specs.Room.{half}
use Rattle.scans.specs.Scan.{Going}
use Rattle.scans.proofs.Scan.{left_covers}
use Rattle.scans.proofs.take_covers.Given as goal

abbrev pub invariant-loop : goal.invariant-loop
invariant-loop l =
    let L = cover_layout l.s l.n in
    let x = held (half l.n 0 l.initial.room) in
    let left = l.k - l.counter in
    Sound L left l.p × Going l.n 0 l.n l.initial.room l.room (left_covers x (items L left l.p)) (λ v. left_covers x (items L l.k l.at) v (get_or l.initial.room (l.n + v) 0))
