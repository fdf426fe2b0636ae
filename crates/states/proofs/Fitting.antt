-- The built graph of an accepted question that passes no limit: its message is read back. Assumes nothing.
use Prim.Native.Nat.{ℕ}
use mathlib.Core.List.{List, ◌++◌}
use mathlib.Core.Bool.{true}
use mathlib.Core.Path.{◌≡◌, sym, ap, ◌∙◌}
use lib.ListN.{length, drop}
use lib.Seq.{take_at}
use Rattle.wire.specs.Read.{Ok}
use Rattle.graph.specs.Message.{read_graph}
use Rattle.graph.specs.Write.{write_graph}
use Rattle.graph.proofs.Exact.{written_accepted}
use Rattle.model.specs.WellFormed as model
use Rattle.syntax.specs.WellFormed as formula
use Rattle.build.specs.Built.{fits}
use Rattle.questions.specs.Question.{Question, graph_for}
use Rattle.settling.proofs.Settling.{fits_well}
use Rattle.states.specs.Promise.{Stands}

module _ (q : Question) {p : ℕ} (m : model.WellFormed q.model) (f : formula.WellFormed p q.rows) (e : fits (graph_for q) ≡ true) where
  reads_back : read_graph (write_graph (graph_for q)) ≡ Ok (graph_for q)
  reads_back = written_accepted (graph_for q) (fits_well q m f e)

  -- at the front of its room
  pub stands : (b : List ℕ) {b' : List ℕ} {n : ℕ} → n ≡ length (write_graph (graph_for q)) → b' ≡ write_graph (graph_for q) ++ drop n b → Stands q b b' n
  stands b long front = record {
    long = long;
    front = front;
    reads = ap read_graph (rw front (take_at (write_graph (graph_for q)) _ _ (sym long))) ∙ reads_back;
  }
