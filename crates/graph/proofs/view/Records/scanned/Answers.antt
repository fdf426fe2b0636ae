-- `Records::scanned` meets its contract.
use Rattle.graph.proofs.Viewed.{same_scanned}
use Rattle.graph.proofs.view.Records.scanned.Goals as goal

pub returns : goal.returns
returns c = same_scanned _ _ _
