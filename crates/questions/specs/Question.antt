-- A question: a model, and a formula checked with the model's p.
use Rattle.std.specs.Prelude.{ℕ, ◌+◌, ◌*◌, ◌-◌, List, length}
use Rattle.wire.specs.Read.{Read, Ok, Err, ◌>>=◌}
use Rattle.rules.specs.Graph.{Graph}
use Rattle.graph.specs.Stored.{StoredGraph, ruled}
use Rattle.model.specs.Model.{Model}
use Rattle.model.specs.Message.{read_model}
use Rattle.syntax.specs.declared.Row.{Row}
use Rattle.syntax.specs.Message.{read_formula}
use Rattle.reduction.specs.Built.{graph_of}

pub record Question : Type 0 where
  pub model : Model
  pub rows : List Row

-- the model first, then the formula
unfoldable pub read_question : (model formula : List ℕ) → Read Question
read_question model formula = do
  M ← read_model model
  rows ← read_formula M.propositions formula
  Ok (record { model = M; rows = rows })

-- the graph that is built for it
abbrev pub graph_for : Question → StoredGraph
graph_for question = graph_of question.model question.rows

-- and the graph of the rules taken from it
abbrev pub ruled_for : Question → Graph
ruled_for question = ruled (graph_for question)

-- the number of nodes of what was read; 0 where it was refused
unfoldable pub nodes_of : Read Question → ℕ
nodes_of (Ok question) = (ruled_for question).nodes
nodes_of (Err e) = 0

-- the root row's node of a state
abbrev pub root_node : Question → (state : ℕ) → ℕ
root_node question state = state + question.model.states * (length question.rows - 1)
