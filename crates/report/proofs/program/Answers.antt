-- `report::program` meets its contract: its report is made with the program's own rooms.
use Rattle.report.specs.Output.{zero_bytes, zero_values}
use Rattle.report.proofs.program.Goals as goal

pub returns : goal.returns
unfolding zero_bytes zero_values
returns c = let e = c.report.ensures in record { value = e.value; out_after = e.out_after; prefix_len = e.prefix_len }
