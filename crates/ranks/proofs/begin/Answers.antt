-- `ranks::begin` meets its contract: the claims of the nodes below v are begun.
use Rattle.std.proofs.Common.{◌≡◌, ◌+◌, ◌*◌, ◌<◌, ◌≤◌, length, length-take-le, arith}
use Rattle.std.proofs.lemmas.List.{get_or-take}
use Rattle.support.specs.Claims.{claim_width}
use Rattle.ranks.proofs.Filling.{begun_more}
use Rattle.ranks.proofs.begin.Goals as goal

pub loop-v-preserved : goal.loop-v-preserved
loop-v-preserved c =
    let v = c.loop-v.v in
    let a = c.args in
    let below : v < a.n = omega (arith, c.loop-v-test.true, length-take-le a.n a.words.now c.requires.n_inside) in
    let fits : (v + 1) * claim_width ≤ length a.claims.now = omega (arith, c.requires.all_inside) in
    rw (c.store_long-in-loop-v.ensures, c.store_long.ensures)
    (begun_more c.loop-v.invariant fits (get_or-take a.n a.words.now v 0 below) (omega (arith, c.type_inv.words v, get_or-take a.n a.words.now v 0 below)))

pub returns : goal.returns
returns c =
    let all : c.loop-v.v ≡ c.args.n = omega (arith, c.loop-v-test.false, c.loop-v.auto.v-end, length-take-le c.args.n c.args.words.now c.requires.n_inside) in
    rw all at c.loop-v.invariant
