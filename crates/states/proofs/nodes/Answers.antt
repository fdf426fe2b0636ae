-- `states::nodes` meets its contract: a refused model or formula has none, and a question's are counted.
use Rattle.transitions.proofs.Accepted.{states_few}
use Rattle.states.proofs.Answering.{nodes_refused, nodes_counted}
use Rattle.states.proofs.nodes.Goals as goal

pub count_nodes-requires : goal.count_nodes-requires
count_nodes-requires c = states_few c.in-Ok.asked.model.holds

pub returns-in-Ok : goal.returns-in-Ok
returns-in-Ok c = nodes_counted _ _ c.in-Ok.asked c.in-Ok.ensures c.count_nodes.ensures

pub returns-in-Err : goal.returns-in-Err
returns-in-Err c = nodes_refused _ _ c.in-Err.ensures
