-- `graph::Reading::near` meets its contract: each pass goes on with what is left, and what is sound has been read.
use Rattle.std.proofs.Common.{◌∙◌, ◌-◌, sym, ap, arith}
use Rattle.graph.specs.declared.Passed.{Passed}
use Rattle.graph.proofs.Near.{PassedOn, passes, passing_on, sound_stays}
use Rattle.graph.proofs.Reading.near.Goals as goal
use Rattle.graph.proofs.Reading.near.Goals.{In-Some}

on : (c : In-Some) → let a = c.args in PassedOn a.self.bytes.now a.self.nodes (c.min-end.result - 4) c.loop-next.p c.in-Some.next
on c = passes _ _ _ _ _ (sym c.in-Some.is ∙ c.pass.ensures)

pub loop-next-smaller : goal.loop-next-smaller
loop-next-smaller c = let o = on c in let less = ap (λ (q : Passed). q.rest.left) o.is in omega (arith, less, o.left)

pub loop-next-preserved : goal.loop-next-preserved
loop-next-preserved c = passing_on _ _ c.args.self.are_bytes (omega arith) c.loop-next.invariant (on c)

pub returns-then-sound : goal.returns-then-sound
returns-then-sound c =
    let so_far = c.loop-next.invariant in
    let all = sym c.sound.ensures ∙ c.if-sound.true in
    let stays = sound_stays c.args.self.bytes.now _ _ all in
    ((omega (arith, so_far.inside), stays.1, stays.0), so_far.fewer, so_far.reads all)
