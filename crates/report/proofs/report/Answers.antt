-- `report::report` meets its contract: a room that is too small, or the output at its front.
use Rattle.std.proofs.Common.{rules}
use Rattle.decimals.proofs.Writing.{lent}
use Rattle.report.proofs.Reported.{none_reported, reported}
use Rattle.report.proofs.report.Goals as goal

pub returns-then-out-lt8192 : goal.returns-then-out-lt8192
returns-then-out-lt8192 c = none_reported _ _ _ _ c.if-out-lt8192.true

pub put_output-requires : goal.put_output-requires
put_output-requires c = c.if-out-lt8192.false

pub returns : goal.returns
returns c =
    let put = c.put_output.ensures in
    reported _ _ _ _ c.if-out-lt8192.false (lent put.wrote (search rules)) put.bytes_after put.values_after
