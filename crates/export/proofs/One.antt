-- One answer and one content of every lent room, but for the ranks that are written: two calls with the same arguments that satisfy the contract of a public function agree.
-- Here a are the arguments, r is the result, and s is what stands in each argument at the end, in the order of the parameters. Assumes nothing.
use mathlib.Core.Path.{◌≡◌, sym, ap, ◌∙◌}
use Rattle.graph.specs.Message.{read_graph}
use Rattle.refusal.specs.Number.{answer_number, answer_offset}
use Rattle.claims.specs.Answers.{read_claims}
use Rattle.claims.proofs.One.{judges_one}
use Rattle.ranks.proofs.One.{SameClaims, writes_one}
use Rattle.export.specs.Claimed.{judged_verdict}
use Prim.Native.Nat.{ℕ}
use Rattle.entries.specs.declared.Entry.{Entry}
use Rattle.tally.specs.declared.Tally.{Tally}
use Rattle.export.specs.Sheet.{EnteredInto}
use Rattle.export.proofs.otzarvim_graph_check.Reads as graph-check
use Rattle.export.proofs.otzarvim_model_check.Reads as model-check
use Rattle.export.proofs.otzarvim_formula_check.Reads as formula-check
use Rattle.export.proofs.otzarvim_rounds_solve.Reads as rounds-solve
use Rattle.export.proofs.otzarvim_search.Reads as search
use Rattle.export.proofs.otzarvim_claims_check.Reads as claims-check
use Rattle.export.proofs.otzarvim_claims_write.Reads as claims-write
use Rattle.export.proofs.otzarvim_formula_text.Reads as formula-text
use Rattle.export.proofs.otzarvim_tally_report.Reads as tally-report
use Rattle.export.proofs.otzarvim_verdict.Reads as verdict
use Rattle.export.proofs.otzarvim_graph.Reads as graph
use Rattle.export.proofs.otzarvim_settle.Reads as settle

-- `export::otzarvim_graph_check`: the answer, the counts and the offset
pub one_graph_check : (κs : _) (a : _) (r r' : _) (s s' : _) → graph-check.Post κs a r s → graph-check.Post κs a r' s'
    → (r ≡ r') × (s.1.0.now ≡ s'.1.0.now) × (s.1.1.0.now ≡ s'.1.1.0.now)
one_graph_check κs a r r' s s' p q = (p.0 ∙ sym q.0, p.1.0 ∙ sym q.1.0, p.1.1 ∙ sym q.1.1)

-- `export::otzarvim_model_check`: the answer, the counts and the offset
pub one_model_check : (κs : _) (a : _) (r r' : _) (s s' : _) → model-check.Post κs a r s → model-check.Post κs a r' s'
    → (r ≡ r') × (s.1.0.now ≡ s'.1.0.now) × (s.1.1.0.now ≡ s'.1.1.0.now)
one_model_check κs a r r' s s' p q = (p.0 ∙ sym q.0, p.1.0 ∙ sym q.1.0, p.1.1 ∙ sym q.1.1)

-- `export::otzarvim_formula_check`: the answer, the rows and the offset
pub one_formula_check : (κs : _) (a : _) (r r' : _) (s s' : _) → formula-check.Post κs a r s → formula-check.Post κs a r' s'
    → (r ≡ r') × (s.1.1.0.now ≡ s'.1.1.0.now) × (s.1.1.1.0.now ≡ s'.1.1.1.0.now)
one_formula_check κs a r r' s s' p q = (p.0 ∙ sym q.0, p.1.0 ∙ sym q.1.0, p.1.1 ∙ sym q.1.1)

-- `export::otzarvim_rounds_solve`: the answer, the room, the count and the offset
pub one_rounds_solve : (κs : _) (a : _) (r r' : _) (s s' : _) → rounds-solve.Post κs a r s → rounds-solve.Post κs a r' s'
    → (r ≡ r') × (s.1.1.0.now ≡ s'.1.1.0.now) × (s.1.1.1.0.now ≡ s'.1.1.1.0.now) × (s.1.1.1.1.0.now ≡ s'.1.1.1.1.0.now)
one_rounds_solve κs a r r' s s' p q = (p.0 ∙ sym q.0, p.1.0 ∙ sym q.1.0, p.1.1.0 ∙ sym q.1.1.0, p.1.1.1.0 ∙ sym q.1.1.1.0)

-- `export::otzarvim_search`: the answer, the words, the verdict, the count and the offset
pub one_search : (κs : _) (a : _) (r r' : _) (s s' : _) → search.Post κs a r s → search.Post κs a r' s'
    → (r ≡ r') × (s.1.1.0.now ≡ s'.1.1.0.now) × (s.1.1.1.0.now ≡ s'.1.1.1.0.now) × (s.1.1.1.1.0.now ≡ s'.1.1.1.1.0.now) × (s.1.1.1.1.1.0.now ≡ s'.1.1.1.1.1.0.now)
one_search κs a r r' s s' p q = (p.0 ∙ sym q.0, p.1.0 ∙ sym q.1.0, p.1.1.0 ∙ sym q.1.1.0, p.1.1.1.0 ∙ sym q.1.1.1.0, p.1.1.1.1.0 ∙ sym q.1.1.1.1.0)

-- `export::otzarvim_claims_check`: the answer and the verdict
pub one_claims_check : (κs : _) (a : _) (r r' : _) (s s' : _) → claims-check.Post κs a r s → claims-check.Post κs a r' s'
    → (r ≡ r') × (s.1.1.0.now ≡ s'.1.1.0.now) × (s.1.1.1.0.now ≡ s'.1.1.1.0.now)
one_claims_check κs a r r' s s' p q =
    let e = judges_one (read_claims a.0.now a.1.0.now) a.1.0.now p.answer q.answer p.judges q.judges in
    (p.number_is ∙ ap answer_number e ∙ sym q.number_is, p.verdict_is ∙ ap judged_verdict e ∙ sym q.verdict_is, p.offset_is ∙ ap answer_offset e ∙ sym q.offset_is)

-- `export::otzarvim_claims_write`: the answer, the claims but for the choice of ranks, and the words
pub one_claims_write : (κs : _) (a : _) (r r' : _) (s s' : _) → (p : claims-write.Post κs a r s) → claims-write.Post κs a r' s'
    → (r ≡ r') × SameClaims (read_graph a.0.now) p.answer s.1.0.now s'.1.0.now × (s.1.1.0.now ≡ s'.1.1.0.now) × (s.1.1.1.0.now ≡ s'.1.1.1.0.now)
one_claims_write κs a r r' s s' p q =
    let e = writes_one (read_graph a.0.now) a.1.0.now a.1.1.0.now p.answer q.answer s.1.0.now s.1.1.0.now s'.1.0.now s'.1.1.0.now p.writes q.writes in
    (p.number_is ∙ ap answer_number e.0 ∙ sym q.number_is, e.1, e.2, p.offset_is ∙ ap answer_offset e.0 ∙ sym q.offset_is)

-- `export::otzarvim_formula_text`: the answer, the room, the length and the offset
pub one_formula_text : (κs : _) (a : _) (r r' : _) (s s' : _) → formula-text.Post κs a r s → formula-text.Post κs a r' s'
    → (r ≡ r') × (s.1.1.0.now ≡ s'.1.1.0.now) × (s.1.1.1.0.now ≡ s'.1.1.1.0.now) × (s.1.1.1.1.0.now ≡ s'.1.1.1.1.0.now)
one_formula_text κs a r r' s s' p q = (p.0 ∙ sym q.0, p.1.0 ∙ sym q.1.0, p.1.1.0 ∙ sym q.1.1.0, p.1.1.1 ∙ sym q.1.1.1)

-- `export::otzarvim_verdict`: the answer, the room of bytes, the room of values, the verdict, the count, the length and the offset
pub one_verdict : (κs : _) (a : _) (r r' : _) (s s' : _) → verdict.Post κs a r s → verdict.Post κs a r' s'
    → (r ≡ r') × (s.1.1.1.1.0.now ≡ s'.1.1.1.1.0.now) × (s.1.1.1.1.1.0.now ≡ s'.1.1.1.1.1.0.now) × (s.1.1.1.1.1.1.0.now ≡ s'.1.1.1.1.1.1.0.now) × (s.1.1.1.1.1.1.1.0.now ≡ s'.1.1.1.1.1.1.1.0.now) × (s.1.1.1.1.1.1.1.1.0.now ≡ s'.1.1.1.1.1.1.1.1.0.now) × (s.1.1.1.1.1.1.1.1.1.0.now ≡ s'.1.1.1.1.1.1.1.1.1.0.now)
one_verdict κs a r r' s s' p q = (p.0 ∙ sym q.0, p.1.0 ∙ sym q.1.0, p.1.1.0 ∙ sym q.1.1.0, p.1.1.1.0 ∙ sym q.1.1.1.0, p.1.1.1.1.0 ∙ sym q.1.1.1.1.0, p.1.1.1.1.1.0 ∙ sym q.1.1.1.1.1.0, p.1.1.1.1.1.1.0 ∙ sym q.1.1.1.1.1.1.0)

-- `export::otzarvim_graph`: the answer, the room, the length and the offset
pub one_graph : (κs : _) (a : _) (r r' : _) (s s' : _) → graph.Post κs a r s → graph.Post κs a r' s'
    → (r ≡ r') × (s.1.1.0.now ≡ s'.1.1.0.now) × (s.1.1.1.0.now ≡ s'.1.1.1.0.now) × (s.1.1.1.1.0.now ≡ s'.1.1.1.1.0.now)
one_graph κs a r r' s s' p q = (p.0 ∙ sym q.0, p.1.0 ∙ sym q.1.0, p.1.1.0 ∙ sym q.1.1.0, p.1.1.1.0 ∙ sym q.1.1.1.0)

-- `export::otzarvim_settle`: the answer, the room of bytes, the room of values, the count, the length, the states and the offset
pub one_settle : (κs : _) (a : _) (r r' : _) (s s' : _) → settle.Post κs a r s → settle.Post κs a r' s'
    → (r ≡ r') × (s.1.1.1.0.now ≡ s'.1.1.1.0.now) × (s.1.1.1.1.0.now ≡ s'.1.1.1.1.0.now) × (s.1.1.1.1.1.0.now ≡ s'.1.1.1.1.1.0.now) × (s.1.1.1.1.1.1.0.now ≡ s'.1.1.1.1.1.1.0.now) × (s.1.1.1.1.1.1.1.0.now ≡ s'.1.1.1.1.1.1.1.0.now) × (s.1.1.1.1.1.1.1.1.0.now ≡ s'.1.1.1.1.1.1.1.1.0.now)
one_settle κs a r r' s s' p q = (p.0 ∙ sym q.0, p.1.0 ∙ sym q.1.0, p.1.1.0 ∙ sym q.1.1.0, p.1.1.1.0 ∙ sym q.1.1.1.0, p.1.1.1.1.0 ∙ sym q.1.1.1.1.0, p.1.1.1.1.1.0 ∙ sym q.1.1.1.1.1.0, p.1.1.1.1.1.1.0 ∙ sym q.1.1.1.1.1.1.0)

-- `export::otzarvim_tally_enter`: the answer and the tally, by what its contract says of them
pub one_tally_enter : {came : Tally} {e : Entry} {r r' : ℕ} {left left' : Tally} → EnteredInto came e r left → EnteredInto came e r' left'
    → (r ≡ r') × (left ≡ left')
one_tally_enter p q = (p.number_is ∙ sym q.number_is, p.tally_is ∙ sym q.tally_is)

-- `export::otzarvim_tally_report`: the answer, the room and the length
pub one_tally_report : (κs : _) (a : _) (r r' : _) (s s' : _) → tally-report.Post κs a r s → tally-report.Post κs a r' s'
    → (r ≡ r') × (s.1.0.now ≡ s'.1.0.now) × (s.1.1.0.now ≡ s'.1.1.0.now)
one_tally_report κs a r r' s s' p q = (p.0 ∙ sym q.0, p.1.0 ∙ sym q.1.0, p.1.1 ∙ sym q.1.1)
