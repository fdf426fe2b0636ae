-- What was found of an edge: a fault, or what it is to the claims.
use Rattle.std.specs.Prelude.{Bool, true, false, Option, None, Some, ◌≡◌}
use Rattle.wire.specs.Read.{Read, Ok}
use Rattle.wire.specs.declared.State.{State}
use Rattle.edges.specs.declared.Edge.{Edge}

-- an edge backs its source's value, or it doesn't, or the source had been marked before
abbrev pub Settled : (Backing Had : Type 0) → Bool → Type 0
Settled Backing Had backs = (backs ≡ true → Backing) × (backs ≡ false → Backing → Had)

-- what was found of an edge without fault: nothing where it isn't fair
abbrev pub Found : (Fair Backing Had : Type 0) → Option Bool → Type 0
Found Fair Backing Had None = ¬ Fair
Found Fair Backing Had (Some backs) = Fair × Settled Backing Had backs

-- what was found of an edge, where the graph's reading gives this state behind it: nothing where it has a fault or isn't fair
abbrev pub EdgeFound : Read State → (Fair Backing Had : Type 0) → Option Edge → Type 0
EdgeFound read Fair Backing Had None = (next : State) → read ≡ Ok next → ¬ Fair
EdgeFound read Fair Backing Had (Some edge) = (read ≡ Ok edge.next) × Fair × Settled Backing Had edge.backs
