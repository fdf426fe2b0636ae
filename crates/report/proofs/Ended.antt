-- What settling a question with a budget of n says of the program's output, exit by exit. Assumes nothing.
use Prim.Native.Nat.{ℕ, ◌+◌, ◌-◌, ◌≤◌, ◌<◌}
use mathlib.Core.List.{List, ◌++◌}
use mathlib.Core.Bool.{Bool, true, false, cond}
use mathlib.Core.Path.{◌≡◌, refl, sym, ap, ap₂, subst, ◌∙◌}
use native.Mathlib.Omega.{arith}
use lib.Dec.{leb, eqb}
use lib.ListN.{length, get_or, take, drop, length-drop}
use lib.Seq.{length-take-le}
use Rattle.std.proofs.lemmas.List.{get_or-take, get_or-drop}
use borrow.Author.Tests.{le-leb}
use Rattle.lists.specs.Making.{span}
use Rattle.refusal.specs.declared.Fault.{Fault}
use Rattle.refusal.specs.Number.{over_budget, number_of, nowhere}
use Rattle.value.specs.Value.{at_most}
use Rattle.wire.specs.Bytes.{Bytes, number}
use Rattle.wire.specs.Read.{Read, Ok, Err, ◌>>=◌}
use Rattle.wire.proofs.Reading.{good_then, bad_then, bind_good}
use Rattle.wire.proofs.Fields.{value_inside, value_is}
use Rattle.rules.specs.Rounds.{rounds}
use Rattle.rules.specs.Count.{count}
use Rattle.graph.specs.Write.{write_graph}
use Rattle.model.specs.Model.{Model}
use Rattle.model.specs.Message.{read_model}
use Rattle.model.proofs.Good.{header_good, model_good}
use Rattle.syntax.specs.Formula.{root_of}
use Rattle.syntax.specs.Message.{read_formula}
use Rattle.wording.specs.Text.{text}
use Rattle.lists.proofs.Making.{span_agree}
use Rattle.questions.specs.Question.{Question, read_question, graph_for, nodes_of, root_node}
use Rattle.settling.specs.Answer.{roomed, read_settled, all_of, values_of}
use Rattle.settling.specs.declared.AllStates.{AllStates}
use Rattle.states.proofs.Deciding.{zero_test}
use Rattle.states.proofs.Finished.{roomed_good, ended_as, node_inside, node_holds}
use Rattle.states.proofs.Promised.{asks}
use Rattle.questions.proofs.Reading.{question_parts}
use Rattle.pieces.specs.Lines.{line, refused_line, rounds_line, state_line}
use Rattle.pieces.specs.Pieces.{states_lines, text_in, ended_lines}
use Rattle.report.specs.Output.{budget_of, settled_lines, output_within, output_of, left_of}

-- where the budget allows the count, the lines are those of the settled question
pub within_settles : (budget : Question → ℕ) (q : Question) → count (graph_for q) ≤ budget q → output_within budget (Ok q) ≡ settled_lines q (count (graph_for q))
unfolding output_within
within_settles budget q h = rw (le-leb (count (graph_for q)) (budget q) h)

-- the lines of states whose numbers stand in a room
part_lines : (v : List ℕ) (first n : ℕ) → first + n ≤ length v → states_lines (take n (drop first v)) ≡ span (λ a. state_line (eqb (get_or v (first + a) 0) 0) a) 0 n
unfolding states_lines
part_lines v first n h =
    let long : length (take n (drop first v)) ≡ n = length-take-le n (drop first v) (simp length-drop (omega arith)) in
    rw long
    (span_agree _ _ 0 n (λ a u l. ap (λ (z : ℕ). state_line (eqb z 0) a) (get_or-take n (drop first v) a 0 (omega arith) ∙ get_or-drop first v a 0)))

-- ---- a question that is read

-- its p stands at the ninth byte of the model
propositions_at : (m : List ℕ) (M : Model) → read_model m ≡ Ok M → (9 ≤ length m) × (number 1 m 8 ≡ M.propositions)
propositions_at m M e =
    let there = (header_good m _ (model_good {s = m} {M = M} e).header).propositions_counted.there in
    (value_inside 1 m 8 there, value_is 1 m 8 there)

-- ---- the exits

module _ (m f : List ℕ) (b v : List ℕ) {budget : ℕ} (n_rounds : budget ≡ nodes_of (read_question m f)) where
  -- the budget of a question that is read
  budget_is : {q : Question} → read_settled m f b v ≡ Ok q → budget ≡ budget_of q
  unfolding read_settled nodes_of
  budget_is {q} e =
      let x = bind_good _ _ e in
      let same = (roomed_good x.value b v x.rest).1 in
      n_rounds ∙ ap nodes_of (x.first ∙ ap Ok same)

  pub left_is : values_of (read_settled m f b v) budget v ≡ left_of (read_settled m f b v) v
  unfolding values_of left_of
  left_is = go (read_settled m f b v) refl
    where
      go : (x : Read Question) → read_settled m f b v ≡ x → values_of x budget v ≡ left_of x v
      go (Ok q) e = ap (λ (k : ℕ). values_of (Ok q) k v) (budget_is e)
      go (Err r) e = refl

  pub output_refused : {e : Fault} → Err e ≡ all_of (read_settled m f b v) budget → output_of (read_settled m f b v) ≡ refused_line (number_of e.refusal) e.offset
  unfolding all_of output_within
  output_refused {e} h = go (read_settled m f b v) h
    where
      tested : (q : Question) (t : Bool) → ◌≡◌ {A = Read AllStates} (Err e)
          (Ok (cond t (AllStates.Settled (count (graph_for q)) (length (write_graph (graph_for q))) (root_node q 0) q.model.states)
          (AllStates.Spent budget (length (write_graph (graph_for q)))))) → ⊥
      tested q true h = let z : ◌≡◌ {A = ℕ} 0 1 = cc in omega arith
      tested q false h = let z : ◌≡◌ {A = ℕ} 0 1 = cc in omega arith

      go : (x : Read Question) → Err e ≡ all_of x budget → output_of x ≡ refused_line (number_of e.refusal) e.offset
      go (Ok q) h = absurd (tested q (leb (count (graph_for q)) budget) h)
      go (Err r) h = let same : e ≡ r = cc in rw same

  pub output_spent : {k n : ℕ} → Ok (AllStates.Spent k n) ≡ all_of (read_settled m f b v) budget → output_of (read_settled m f b v) ≡ refused_line over_budget nowhere
  unfolding all_of output_within
  output_spent {k} {n} h = go (read_settled m f b v) refl h
    where
      tested : (q : Question) (t : Bool) → ◌≡◌ {A = Read AllStates} (Ok (AllStates.Spent k n))
          (Ok (cond t (AllStates.Settled (count (graph_for q)) (length (write_graph (graph_for q))) (root_node q 0) q.model.states)
          (AllStates.Spent budget (length (write_graph (graph_for q))))))
          → cond t (settled_lines q (count (graph_for q))) (refused_line over_budget nowhere) ≡ refused_line over_budget nowhere
      tested q true h = let z : ◌≡◌ {A = ℕ} 0 1 = cc in absurd (omega arith)
      tested q false h = refl

      go : (x : Read Question) → read_settled m f b v ≡ x → Ok (AllStates.Spent k n) ≡ all_of x budget → output_of x ≡ refused_line over_budget nowhere
      go (Ok q) e h =
          subst (λ (k : ℕ). cond (leb (count (graph_for q)) k) (settled_lines q (count (graph_for q))) (refused_line over_budget nowhere) ≡ refused_line over_budget nowhere)
          (budget_is e) (tested q (leb (count (graph_for q)) budget) h)
      go (Err r) e h = let z : ◌≡◌ {A = ℕ} 0 1 = cc in absurd (omega arith)

  -- it settled: the lines are those of the settled question
  module _ (mb : Bytes m) (fb : Bytes f) {v' : List ℕ} (values : v' ≡ values_of (read_settled m f b v) budget v) where
    pub record Done (k first states : ℕ) : Type 0 where
      pub inside : first + states ≤ length v'
      pub few : states ≤ 256
      pub header : 9 ≤ length m
      pub lines : ended_lines (read_formula (number 1 m 8) f) k (take states (drop first v')) ≡ output_of (read_settled m f b v)

    done_for : {k n first states : ℕ} (q : Question) → read_question m f ≡ Ok q → read_settled m f b v ≡ roomed q b v
        → Ok (AllStates.Settled k n first states) ≡ all_of (roomed q b v) budget → Done k first states
    unfolding ended_lines settled_lines text_in
    done_for {k} {n} {first} {states} q e settled h =
        let vs : v' ≡ values_of (roomed q b v) budget v = rw settled at values in
        let fin = ended_as q budget b v h in
        let asked = asks m f q mb fb e in
        let parts = question_parts m f q e in
        let p = propositions_at m q.model parts.0 in
        let some = asked.formula_fits.some_row in
        let last = node_inside fin some (q.model.states - 1) (omega (arith, asked.model_fits.some_state)) vs in
        let state : (a : ℕ) → 0 ≤ a → a < 0 + states
        → state_line (eqb (get_or v' (first + a) 0) 0) a ≡ state_line (at_most (rounds (graph_for q) k (root_node q a)) 0) a =
        λ a u l. ap (λ t. state_line t a) (ap (λ (z : ℕ). eqb z 0) (node_holds fin some a (omega (arith, fin.states_are)) vs) ∙ sym (zero_test (rounds (graph_for q) k (root_node q a)))) in
        let text_is : text_in (read_formula (number 1 m 8) f) ≡ text (root_of q.rows) = rw (p.1, parts.1) in
        let inside : first + states ≤ length v' = omega (arith, fin.states_are, asked.model_fits.some_state) in
        let lines : states_lines (take states (drop first v')) ≡ span (λ a. state_line (at_most (rounds (graph_for q) k (root_node q a)) 0) a) 0 q.model.states =
        part_lines v' first states inside ∙ span_agree _ _ 0 states state ∙ ap (λ (j : ℕ). span (λ a. state_line (at_most (rounds (graph_for q) k (root_node q a)) 0) a) 0 j) fin.states_are in
        let reads : read_settled m f b v ≡ Ok q = settled ∙ fin.ran.is in
        let allowed : count (graph_for q) ≤ budget_of q = omega (arith, fin.count_is, fin.within, budget_is reads) in
        let out : settled_lines q k ≡ output_of (read_settled m f b v) =
        ap (settled_lines q) fin.count_is ∙ sym (within_settles budget_of q allowed) ∙ ap output_of (sym reads) in
        record {
          inside = inside;
          few = omega (arith, fin.states_are, asked.model_fits.states_fit);
          header = p.0;
          lines = ap₂ ◌++◌ (ap (λ (s : List ℕ). line s ++ rounds_line k) text_is) lines ∙ out;
        }

    pub output_done : {k n first states : ℕ} → Ok (AllStates.Settled k n first states) ≡ all_of (read_settled m f b v) budget → Done k first states
    unfolding all_of read_settled
    output_done {k} {n} {first} {states} h = go (read_question m f) refl h
      where
        go : (x : Read Question) → read_question m f ≡ x → Ok (AllStates.Settled k n first states) ≡ all_of (x >>= λ q. roomed q b v) budget → Done k first states
        go (Ok q) e h =
            let h = rw (good_then q (λ q. roomed q b v)) at h in
            done_for q e (rw e (good_then q (λ q. roomed q b v))) h
        go (Err r) e h = let h = rw (bad_then r (λ q. roomed q b v)) at h in let z : ◌≡◌ {A = ℕ} 0 1 = cc in absurd (omega arith)
