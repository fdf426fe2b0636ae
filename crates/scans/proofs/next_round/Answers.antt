-- `scans::next_round` meets its contract: with the hyperedges, with the cover edges that are marked.
use Rattle.scans.proofs.Next.{round_done}
use Rattle.scans.proofs.next_round.Goals as goal

pub returns-clause-done : goal.returns-clause-done
returns-clause-done c = round_done _ _ _ _ _ _ _ _ _ _ _ c.take_hypers-past.ensures.done c.take_marked.ensures
