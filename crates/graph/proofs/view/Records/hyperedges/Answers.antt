-- `Records::hyperedges` meets its contract.
use Rattle.graph.proofs.Viewed.{same_hypers}
use Rattle.graph.proofs.view.Records.hyperedges.Goals as goal

pub returns : goal.returns
returns c = same_hypers _ _
