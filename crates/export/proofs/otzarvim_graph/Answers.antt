-- `export::otzarvim_graph` meets its contract: the number, the room and the length.
use Prim.Native.Nat.{ℕ}
use mathlib.Core.Path.{◌≡◌, refl, ap, subst, ◌∙◌}
use Rattle.std.specs.Result.{result_unwrap_or}
use Rattle.refusal.specs.Number.{answer_number, answer_offset}
use Rattle.wire.specs.Read.{Read, Ok, Err}
use Rattle.build.specs.Built.{built_length}
use Rattle.states.specs.Promise.{PromiseGraph}
use Rattle.export.proofs.otzarvim_graph.Goals as goal

-- a refusal has length 0
unwrapped : (built : Read ℕ) → result_unwrap_or built 0 ≡ built_length built
unwrapped (Ok n) = refl
unwrapped (Err e) = refl

pub returns : goal.returns
returns c =
    let built = c.graph-built.ensures in
    record {
      value = c.number.ensures ∙ ap answer_number built.value;
      bytes_after = built.room_after;
      length_after = c.unwrap_or.ensures ∙ unwrapped c.graph-built.result ∙ ap built_length built.value;
      offset_after = c.offset.ensures ∙ ap answer_offset built.value;
      promise_graph = subst (PromiseGraph _ _ _ _) built.value built.promise_graph;
    }
