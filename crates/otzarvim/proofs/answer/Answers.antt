use Rattle.std.proofs.Common.{◌≡◌, ◌≤◌, length, take, arith}
use Rattle.intake.proofs.Front.{first_bytes}
use Rattle.otzarvim.proofs.Moved.{report_front, moved, moved_part}
use Rattle.otzarvim.proofs.answer.Goals as goal

pub returns : goal.returns
returns g c =
    let got = c.in_ok-got.got in
    let front = take got c.fill.new.room in
    let read = c.in_ok-got.ensures in
    let report = c.program-len.ensures in
    let size : length c.fill.new.room ≡ 8193 = c.fill.auto.room in
    let fits : length front ≤ 8193 = omega (arith, read.prefix_len.0, read.prefix_len.1) in
    let first = first_bytes _ _ front 8193 read.bytes fits (λ less. read.whole (omega (arith, read.prefix_len.1, less))) in
    let whole = report_front _ _ _ _ (omega arith) report.value report.out_after in
    record { ok = moved _ _ _ _ front _ first whole c.put.ensures.ok; err = moved_part _ _ _ _ front _ first whole c.put.ensures.err }
