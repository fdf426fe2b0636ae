-- `decimals::Writer::decimal` meets its contract: a 4-byte number is written as an 8-byte one.
use Rattle.std.proofs.Common.{sym, arith}
use Rattle.decimals.proofs.Decimal.{long_short}
use Rattle.decimals.proofs.Writing.{said}
use Rattle.decimals.proofs.Writer.decimal.Goals as goal

pub long-requires : goal.long-requires
long-requires c = rw (long_short c.args.n (omega arith)) c.requires

pub returns : goal.returns
returns c = said c.long.ensures (sym (long_short c.args.n (omega arith)))
