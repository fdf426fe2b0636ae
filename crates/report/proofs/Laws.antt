-- Laws of a report: a state's line says yes exactly when the state satisfies the formula by its maximal runs; so for an input that is read and
-- settles. A budget of n (c + 1) would give the same output. Assumes nothing.
use Prim.Native.Nat.{ℕ, ◌+◌, ◌*◌, ◌<◌}
use mathlib.Core.List.{List}
use mathlib.Core.Bool.{true}
use mathlib.Core.Logic.{◌↔◌}
use mathlib.Core.Path.{◌≡◌, refl, sym, ap, ◌∙◌}
use lib.ListN.{length, take, drop}
use Rattle.value.specs.Value.{at_most}
use Rattle.wire.specs.Bytes.{Bytes}
use Rattle.wire.specs.Read.{Read, Ok, Err}
use Rattle.wire.proofs.Bytes.{front_bytes, rest_bytes}
use Rattle.wire.proofs.Reading.{bind_good}
use Rattle.rules.specs.Rounds.{rounds}
use Rattle.rules.specs.Count.{count}
use Rattle.model.specs.WellFormed as model
use Rattle.syntax.specs.WellFormed as formula
use Rattle.reduction.proofs.Depths.{built_count}
use Rattle.build.specs.Built.{fits}
use Rattle.questions.specs.Question.{Question, graph_for, ruled_for, root_node}
use Rattle.settling.specs.Answer.{read_settled}
use Rattle.states.specs.Promise.{Asks, Satisfies}
use Rattle.states.proofs.Deciding.{test_when}
use Rattle.rules.proofs.Count.{count_first, count_le}
use Rattle.states.proofs.Finished.{roomed_good}
use Rattle.settling.proofs.Settling.{fits_well}
use Rattle.states.proofs.Promised.{asks}
use Rattle.report.specs.Output.{read_input, budget_of, settled_lines, output_within, output_of}
use Rattle.report.proofs.Ended.{within_settles}

-- within its budget every question settles
pub outputs : (q : Question) → model.WellFormed q.model → formula.WellFormed q.model.propositions q.rows → output_of (Ok q) ≡ settled_lines q (count (graph_for q))
outputs q m f = within_settles budget_of q (built_count m f)

-- the test behind a state's line, once the rounds have settled
pub line_exactly : (q : Question) → model.WellFormed q.model → formula.WellFormed q.model.propositions q.rows → fits (graph_for q) ≡ true
    → (a : ℕ) → a < q.model.states → (at_most (rounds (graph_for q) (count (graph_for q)) (root_node q a)) 0 ≡ true) ↔ Satisfies q a
line_exactly q m f e a l = test_when q m f (count (graph_for q)) (count_first (graph_for q) (fits_well q m f e).closed).settled a l

-- ---- joined to the input

-- an accepted input writes a model and a formula, and its graph passes no limit
pub input_asks : (s b v : List ℕ) (q : Question) → Bytes s → read_input s b v ≡ Ok q
    → ((k : ℕ) × Asks (take k s) (drop k s) q) × (fits (graph_for q) ≡ true)
unfolding read_input read_settled
input_asks s b v q bytes e =
    let x = bind_good _ _ e in
    let k = x.value in
    let y = bind_good _ _ x.rest in
    let (r, same) = roomed_good y.value b v y.rest in
    let reads = y.first ∙ ap Ok same in
    ((k, asks (take k s) (drop k s) q (front_bytes k s bytes) (rest_bytes k s bytes) reads), rw (← same) r.fitting)

-- it settles: the output is the lines of the settled question, and the test behind a state's line is the state's answer
pub input_exactly : (s b v : List ℕ) (q : Question) → Bytes s → read_input s b v ≡ Ok q
    → let m = count (ruled_for q) in
    (output_of (read_input s b v) ≡ settled_lines q m)
    × ((a : ℕ) → a < q.model.states → (at_most (rounds (ruled_for q) m (root_node q a)) 0 ≡ true) ↔ Satisfies q a)
input_exactly s b v q bytes e =
    let (asked, fitting) = input_asks s b v q bytes e in
    (rw e (outputs q asked.1.model_fits asked.1.formula_fits), λ a l. line_exactly q asked.1.model_fits asked.1.formula_fits fitting a l)

-- the output is the same for every input as with a budget of n (c + 1)
pub same_output : (s b v : List ℕ) → Bytes s
    → output_of (read_input s b v) ≡ output_within (λ q. (ruled_for q).nodes * (length (ruled_for q).covers + 1)) (read_input s b v)
unfolding output_within
same_output s b v bytes = go (read_input s b v) refl
  where
    former : Question → ℕ
    former q = (ruled_for q).nodes * (length (ruled_for q).covers + 1)

    go : (x : Read Question) → read_input s b v ≡ x → output_of x ≡ output_within former x
    go (Ok q) e =
        let asked = (input_asks s b v q bytes e).0.1 in
        outputs q asked.model_fits asked.formula_fits ∙ sym (within_settles former q (count_le (graph_for q)))
    go (Err r) e = refl
