use Rattle.std.proofs.Common.{rules, sym, subst}
use Rattle.std.specs.Io.KnownBytes.{Appends}
use Rattle.std.proofs.KnownBytes.{Appends-trans}
use Rattle.intake.proofs.Front.{take_next}
use Rattle.intake.proofs.put.Goals as goal

pub loop-done-preserved : goal.loop-done-preserved
loop-done-preserved g c =
    let written = c.in_ok-n.ensures in
    let joined = take_next c.loop-done.done c.in_ok-n.n c.args.bytes.now in
    (search rules, subst (Appends _ _) (sym joined) (Appends-trans _ _ _ _ _ c.loop-done.invariant.1 written.bytes))
