-- What accepted model and formula messages hold, by position. Assumes nothing.
use Rattle.std.proofs.Common.{◌≡◌, ℕ, ◌+◌, List, length, sym, refl, ap, ◌∙◌, subst, arith}
use Rattle.wire.specs.Bytes.{number, Bytes}
use Rattle.wire.specs.Read.{Ok}
use Rattle.wire.specs.Layout.{items}
use Rattle.wire.specs.declared.State.{State}
use Rattle.wire.proofs.Fields.{value_inside, value_is}
use Rattle.wire.proofs.Layouts.{Reads, reads_all}
use Rattle.model.specs.Format.{model_header, weight_at, action_at, to_at, label_at, transition_at}
use Rattle.model.specs.Model.{Model, Transition}
use Rattle.wire.specs.Begin.{start}
use Rattle.model.specs.Message.{read_label, read_transition, read_model, labels, transitions}
use Rattle.model.specs.WellFormed as model
use Rattle.model.proofs.Good.{label_good, transition_good, header_good, model_good}
use Rattle.model.proofs.Exact as model-exact
use Rattle.syntax.specs.declared.Row.{Row}
use Rattle.syntax.specs.Message.{read_formula}
use Rattle.syntax.specs.WellFormed as formula
use Rattle.formula.proofs.Good.{formula_good, header_good as rows-header}
use Rattle.formula.proofs.Accepted.{accepted_holds}
use Rattle.formula.proofs.Exact as formula-exact
use Rattle.transitions.specs.Held.{transition_layout, label_layout, held_model, held_rows, HoldsModel, HoldsRows}

module _ (m : List ℕ) where
  labels_read : (p : ℕ) (st : State) (l : ℕ) → read_label m p st ≡ Ok l → Reads (label_layout m) (labels m p) st l
  labels_read p st l e =
      let g = label_good m p st l e in
      record { item_is = sym (value_is 4 m _ g.label_there); next_is = refl; ok = value_inside 4 m _ g.label_there }

  transitions_read : (n : ℕ) (st : State) (u : Transition) → read_transition m n st ≡ Ok u → Reads (transition_layout m) (transitions m n) st u
  transitions_read n st u e =
      let g = transition_good m n st u e in
      let from : number 2 m st.at ≡ u.from = value_is 2 m _ g.from_there in
      let weight : number 4 m (st.at + weight_at) ≡ u.weight = value_is 4 m _ g.weight_there in
      let action : number 2 m (st.at + action_at) ≡ u.action = value_is 2 m _ g.action_there in
      let to : number 2 m (st.at + to_at) ≡ u.to = value_is 2 m _ g.to_there in
      record {
        item_is = λ i. record { from = sym from i; weight = sym weight i; action = sym action i; to = sym to i };
        next_is = refl;
        ok = omega (arith, value_inside 2 m (st.at + to_at) g.to_there);
      }

-- the model is the one at the positions, and a builder may rely on it
pub record ModelHeld (m : List ℕ) (M : Model) (n p t : ℕ) : Type 0 where
  pub is : M ≡ held_model m n p t
  pub stands : HoldsModel m n p t

pub model_held : (m : List ℕ) (M : Model) → Bytes m → read_model m ≡ Ok M → ModelHeld m M M.states M.propositions (length M.transitions)
unfolding held_model
model_held m M bytes e =
    let p = model_good {s = m} {M = M} e in
    let n = M.states in
    let head = header_good m _ p.header in
    let labels-hold = reads_all (label_layout m) (labels m M.propositions) (labels_read m M.propositions) _ (start model_header) _ p.labels_there in
    let transitions-hold = reads_all (transition_layout m) (transitions m n) (transitions_read m n) _ (start (label_at n)) _ p.transitions_there in
    let there : transition_at n 0 ≡ label_at n = omega arith in
    let at : M ≡ held_model m n M.propositions (length M.transitions) =
    λ i. record {
      states = n;
      propositions = M.propositions;
      labels = labels-hold.items_are i;
      transitions = (transitions-hold.items_are ∙ ap (items (transition_layout m) (length M.transitions)) (sym there)) i;
    } in
    record {
      is = at;
      stands = record {
        long = head.long;
        well_formed = subst model.WellFormed at (model-exact.accepted_written m M bytes e).1;
        transitions_fit = head.transitions_counted.no_more;
      };
    }

-- the same of a formula's rows
pub record RowsHeld (f : List ℕ) (rows : List Row) (k p : ℕ) : Type 0 where
  pub is : rows ≡ held_rows f k
  pub stands : HoldsRows f k p

pub rows_held : (p : ℕ) (f : List ℕ) (rows : List Row) → Bytes f → read_formula p f ≡ Ok rows → RowsHeld f rows (length rows) p
unfolding held_rows
rows_held p f rows bytes e =
    let g = formula_good p f rows e in
    let head = rows-header f (length rows) g.header in
    let are = (accepted_holds p f rows e).are in
    record {
      is = are;
      stands = record {
        long = head.long;
        well_formed = subst (formula.WellFormed p) are (formula-exact.accepted_written p f rows bytes e).1;
        rows_fit = head.f_counted.no_more;
      };
    }
