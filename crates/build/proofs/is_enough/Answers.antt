-- `build::is_enough` meets its contract, test by test.
use mathlib.Core.Bool.{true, not, not-not}
use mathlib.Core.Path.{◌≡◌, sym, ap, ◌∙◌}
use borrow.Author.Tests.{le-leb, lt-leb}
use Rattle.graph.specs.Format.{graph_length}
use Rattle.sizing.specs.Size.{in_limits}
use Rattle.sizing.proofs.Limits.{fewer_within}
use Rattle.build.specs.Built.{enough}
use Rattle.build.proofs.is_enough.Goals as goal
use Rattle.build.proofs.is_enough.Goals.{After-too_large, Else-too_large}

-- whether a limit is passed
tested : (c : After-too_large) → let a = c.args in in_limits a.nodes a.size ≡ not c.too_large.result
tested c = sym (not-not _) ∙ ap not (sym c.too_large.ensures)

within : (c : Else-too_large) → let a = c.args in in_limits a.nodes a.size ≡ true
within c = (let it : let a = c.args in in_limits a.nodes a.size ≡ not c.too_large.result = sym (not-not _) ∙ ap not (sym c.too_large.ensures) in it) ∙ ap not c.if-too_large.false

pub returns-then-too_large : goal.returns-then-too_large
unfolding enough
returns-then-too_large c = rw (tested (goal.at.returns-then-too_large c).After-too_large ∙ ap not c.if-too_large.true)

pub message_length-long-requires : goal.message_length-long-requires
message_length-long-requires c = fewer_within _ _ c.args.size c.requires (within c)

pub returns-then-bytes-long : goal.returns-then-bytes-long
unfolding enough
returns-then-bytes-long c =
    let a = c.args in
    rw (within (goal.at.returns-then-bytes-long c).Else-too_large, lt-leb (graph_length a.size.hypers a.size.targets a.covers) a.bytes (rw c.message_length-long.ensures at c.if-bytes-long.true))

pub returns : goal.returns
unfolding enough
returns c =
    let a = c.args in
    rw (within (goal.at.returns c).Else-too_large, le-leb (graph_length a.size.hypers a.size.targets a.covers) a.bytes (rw c.message_length-long.ensures at c.if-bytes-long.false))
