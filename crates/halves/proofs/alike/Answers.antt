-- `halves::alike` meets its contract: no bit is gathered exactly where the numbers before j are the same.
use Prim.Native.Nat.{◌+◌}
use mathlib.Core.Path.{◌≡◌}
use lib.ListN.{get_or}
use native.Mathlib.Omega.{arith}
use borrow.Author.Tests.{eqb-true, eqb-false}
use Rattle.lists.proofs.Apart.{still_same, both_same, none_apart}
use Rattle.halves.proofs.Room.{level_one, level_alike, alike_level}
use Rattle.halves.proofs.alike.Goals as goal

pub loop-j-preserved : goal.loop-j-preserved
loop-j-preserved c =
    let l = c.loop-j in
    let a = c.args in
    let here = get_or a.room.now l.j 0 in
    let there = get_or a.room.now (a.n + l.j) 0 in (
      λ e. level_one a.n a.at l.j a.room.now (l.invariant.0 (still_same l.apart here there e)) (both_same l.apart here there e),
      λ same. none_apart l.apart here there (l.invariant.1 (λ v m h. same v m (omega arith))) (same l.j (omega (arith, l.auto.j)) (omega arith)),
    )

pub returns : goal.returns
returns c =
    let l = c.loop-j in
    let a = c.args in
    let all : l.j ≡ a.at + a.k = omega (arith, l.auto.j, c.loop-j-test.false) in
    (λ e. level_alike a.n a.at a.k a.room.now (rw all at (l.invariant.0 (eqb-true _ _ e))), λ e same. eqb-false _ _ e (l.invariant.1 (rw all (alike_level a.n a.at a.k a.room.now same))))
