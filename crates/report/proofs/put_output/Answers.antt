-- `report::put_output` meets its contract: an input that cannot be cut is refused, and else its two parts are answered.
use Rattle.lists.proofs.Tests.{by}
use Rattle.pieces.proofs.Lines.{refused_fits}
use Rattle.report.proofs.Reported.{end_inside, end_reads, end_refused, put_fault, put_as}
use Rattle.report.proofs.put_output.Goals as goal

pub put_refused-requires : goal.put_refused-requires
put_refused-requires c = refused_fits _ _ _ c.requires

pub split_at-requires : goal.split_at-requires
split_at-requires c = end_inside _ (by c.model_end.ensures c.in-Ok.is)

pub returns-in-Err : goal.returns-in-Err
returns-in-Err c =
    put_fault _ _ (end_refused _ _ _ (by c.model_end.ensures c.in-Err.is)) (rw c.number.ensures at c.put_refused.ensures)

pub returns-in-Ok : goal.returns-in-Ok
returns-in-Ok c =
    let cut = c.split_at.ensures in
    put_as _ _ (end_reads _ _ _ (by c.model_end.ensures c.in-Ok.is) cut.front cut.back) c.put_answer.ensures
