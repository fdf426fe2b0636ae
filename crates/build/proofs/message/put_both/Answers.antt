-- `message::put_both` meets its contract: the second hyperedge stands behind the first.
use Rattle.std.proofs.Common.{arith}
use Rattle.graph.specs.Write.{write_hyper}
use Rattle.reduction.specs.Built.{to}
use Rattle.wire.proofs.Laid.{same_length as as_long}
use Rattle.records.proofs.Edges.{single_length, single_laid, more_laid}
use Rattle.build.proofs.message.put_both.Goals as goal

pub put_single-requires : goal.put_single-requires
put_single-requires c = omega (arith, as_long c.put_single-second.ensures, c.put_single-second.ensures.next_is, single_length c.args.v (to 0 c.args.node))

pub returns : goal.returns
returns c = more_laid write_hyper _ c.put_single-second.ensures _ (single_laid write_hyper _ c.put_single.ensures)
