-- What the writer answers, from what was found. Assumes nothing.
use Prim.Native.Nat.{ℕ}
use mathlib.Core.List.{List}
use mathlib.Core.Path.{◌≡◌, refl, sym, subst}
use Rattle.refusal.specs.Number.{unplaced}
use Rattle.refusal.specs.declared.Fault.{Fault}
use Rattle.refusal.specs.declared.Refusal.TheVariants.{Profile, Room}
use Rattle.wire.specs.Bytes.{Bytes}
use Rattle.wire.specs.Read.{Read, Ok, Err}
use Rattle.rules.specs.Walks.{CoverCycle}
use Rattle.graph.specs.Stored.{StoredGraph}
use Rattle.graph.specs.Message.{read_graph}
use Rattle.graph.specs.Answers.{checked}
use Rattle.graph.specs.Layouts.{decoded}
use Rattle.graph.proofs.Answered.{checked_refused}
use Rattle.graph.proofs.Ready.{Begin}
use Rattle.claims.proofs.Answering.{begun_accepted}
use Rattle.ranks.specs.Answers.{Narrow, Untouched, Filled, WritesOf, cyclic, narrow, filled, Writes}
use Rattle.ranks.specs.Promise.{WrittenPromise}

module _ (s claims words : List ℕ) (bytes : Bytes s) where
  abbrev pub ShownWritten : (claims' words' : List ℕ) → Read Unit → Type 0
  ShownWritten claims' words' r = Writes (read_graph s) claims words claims' words' r × WrittenPromise s claims words claims' words' r

  untouched : Untouched claims words claims words
  untouched = record { claims_stay = refl; words_stay = refl }

  pub written_refused : {e : Fault} → checked (read_graph s) ≡ Err e → ShownWritten claims words (Err e)
  written_refused {e} h =
      (subst (λ (x : Read StoredGraph). Writes x claims words claims words (Err e)) (sym (checked_refused (read_graph s) h)) (refl, untouched), untouched)

  module _ {n h c : ℕ} (begun : Begin s n h c) where
    -- what is written of the graph is written of the message
    of_graph : {claims' words' : List ℕ} {r : Read Unit} → WritesOf (decoded s n h c) claims words claims' words' r → Writes (read_graph s) claims words claims' words' r
    of_graph {claims'} {words'} {r} w = subst (λ (x : Read StoredGraph). Writes x claims words claims' words' r) (sym begun.reads) w

    pub written_cyclic : CoverCycle (decoded s n h c) → ShownWritten claims words (Err (unplaced Profile))
    written_cyclic z = (of_graph (cyclic z untouched), untouched)

    pub written_narrow : ¬ CoverCycle (decoded s n h c) → Narrow (decoded s n h c) claims words → ShownWritten claims words (Err (unplaced Room))
    written_narrow free small = (of_graph (narrow free small untouched), untouched)

    pub written_filled : {claims' words' : List ℕ} → ¬ CoverCycle (decoded s n h c) → ¬ Narrow (decoded s n h c) claims words
        → Filled (decoded s n h c) claims words claims' words' → ShownWritten claims' words' (Ok tt)
    written_filled free wide f = (
      of_graph (filled free wide f),
      record { graph = decoded s n h c; accepted = begun_accepted bytes begun; writes = filled free wide f },
    )
