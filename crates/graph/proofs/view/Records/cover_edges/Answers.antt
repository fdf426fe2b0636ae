-- `Records::cover_edges` meets its contract.
use Rattle.graph.proofs.Viewed.{same_covers}
use Rattle.graph.proofs.view.Records.cover_edges.Goals as goal

pub returns : goal.returns
returns c = same_covers _ _
