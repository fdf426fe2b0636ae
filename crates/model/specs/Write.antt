-- The bytes of a model message.
use Rattle.std.specs.Prelude.{ℕ, List, ◌++◌, length}
use Rattle.wire.specs.Bytes.{bytes}
use Rattle.wire.specs.Write.{write_all, message}
use Rattle.model.specs.Model.{Model, Transition}
use Rattle.model.specs.Format.{model_head}

-- from (2), weight (4), action (2), to (2)
unfoldable pub write_transition : Transition → List ℕ
write_transition t = bytes 2 t.from ++ bytes 4 t.weight ++ bytes 2 t.action ++ bytes 2 t.to

-- states (2), propositions (1), transitions (4), the labels (4 each), the transitions
unfoldable pub write_body : Model → List ℕ
write_body M =
    bytes 2 M.states ++ bytes 1 M.propositions ++ bytes 4 (length M.transitions)
    ++ write_all (bytes 4) M.labels ++ write_all write_transition M.transitions

-- behind the start
unfoldable pub write_model : Model → List ℕ
write_model M = message model_head (write_body M)
