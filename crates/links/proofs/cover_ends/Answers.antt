-- `links::cover_ends` meets its contract: what stands behind the source counts less than one of it, and so does what stands before the target.
use Rattle.std.proofs.Common.{◌+◌, arith}
use Rattle.wire.specs.Bytes.{Bytes}
use Rattle.wire.proofs.Bytes.{number_below, number_split}
use Rattle.links.proofs.cover_ends.Goals as goal

pub returns : goal.returns
returns c =
    let s = c.args.s.now in
    let at = c.args.edge in
    let bytes : Bytes s = λ i. omega (arith, c.type_inv.s i) in (
      omega (arith, c.long_at-whole.ensures, number_split 2 6 s at, number_below 6 s (at + 2) bytes),
      omega (arith, c.long_at-whole.ensures, number_split 6 2 s at, number_below 2 s (at + 6) bytes),
      omega arith,
    )
