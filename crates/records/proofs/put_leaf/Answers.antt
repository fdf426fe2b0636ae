-- `records::put_leaf` meets its contract: a head alone, or nothing.
use Rattle.records.proofs.Edges.{bare_fits, bare_laid, none_laid}
use Rattle.records.proofs.put_leaf.Goals as goal

pub put_head-requires : goal.put_head-requires
put_head-requires c = bare_fits c.args.v c.args.at (rw c.if-one.true at c.requires)

pub returns-then-one : goal.returns-then-one
returns-then-one c = rw c.if-one.true (bare_laid _ c.put_head.ensures)

pub returns : goal.returns
returns c = rw c.if-one.false (none_laid c.args.v _ _ (rw c.if-one.false at c.requires))
