-- `wire::long_at` meets its contract: 8 bytes are 4 bytes and 4 behind them.
use Rattle.std.proofs.Common.{arith}
use Rattle.wire.proofs.Bytes.{number_split}
use Rattle.wire.proofs.long_at.Goals as goal

pub returns : goal.returns
returns c =
    let a = c.args in
    omega (arith, number_split 4 4 a.s.now a.at)
