-- What a good reading says: each field is there, each demand is met. Assumes nothing.
use Prim.Native.Nat.{ℕ, ◌+◌, ◌^◌, ◌<◌, ◌≤◌}
use mathlib.Core.List.{List}
use mathlib.Core.Path.{◌≡◌, sym, ap, subst, ◌∙◌}
use lib.ListN.{length}
use borrow.Author.Tests.{eqb-true}
use Rattle.wire.specs.declared.State.{State}
use Rattle.wire.specs.Read.{Ok, field}
use Rattle.wire.specs.Reader.{read_all, one}
use Rattle.wire.specs.Start.{read_start}
use Rattle.wire.proofs.Counts.{CountAt, count_good}
use Rattle.wire.proofs.Exact.{all_there}
use Rattle.wire.proofs.Reading.{bind_good, and_good, demand_good, below_good, source_good, good_same}
use Rattle.wire.proofs.Readers.{all_length}
use Rattle.model.specs.Model.{Model, Transition}
use Rattle.wire.specs.Begin.{start}
use Rattle.model.specs.Format.{model_header, model_head, states_count, propositions_count, transitions_count, label_width, weight_at, action_at, to_at, transition_width, label_at, model_length}
use Rattle.model.specs.Message.{read_label, read_transition, read_header, read_model, labels, transitions}
use Rattle.model.specs.declared.Counts.{Counts}
use Rattle.model.specs.Answers.{counts_of}

module _ (s : List ℕ) where
  -- what a good label says of the bytes
  pub record LabelAt (p : ℕ) (st : State) (l : ℕ) : Type 0 where
    pub label_there : field 4 s st.at ≡ Ok l
    pub label_fits : l < 2 ^ p

  pub label_good : (p : ℕ) (st : State) (l : ℕ) → read_label s p st ≡ Ok l → LabelAt p st l
  unfolding read_label
  label_good p st l e =
      let g = below_good 4 s st.at (2 ^ p) _ e in
      record { label_there = g.0; label_fits = g.1 }

  -- what a good transition says of the bytes
  pub record TransitionAt (n : ℕ) (st : State) (t : Transition) : Type 0 where
    pub from_there : field 2 s st.at ≡ Ok t.from
    pub weight_there : field 4 s (st.at + weight_at) ≡ Ok t.weight
    pub action_there : field 2 s (st.at + action_at) ≡ Ok t.action
    pub to_there : field 2 s (st.at + to_at) ≡ Ok t.to
    pub from_named : t.from < n
    pub ordered : st.prev ≤ t.from
    pub to_named : t.to < n

  pub transition_good : (n : ℕ) (st : State) (t : Transition) → read_transition s n st ≡ Ok t → TransitionAt n st t
  unfolding read_transition
  transition_good n st t e =
      let f = bind_good _ _ e in
      let from = source_good s st.at n st.prev st.at f.first in
      let w = bind_good _ _ f.rest in
      let k = bind_good _ _ w.rest in
      let v = bind_good _ _ k.rest in
      let to = below_good 2 s (st.at + to_at) n _ v.first in
      let same : record { from = f.value; weight = w.value; action = k.value; to = v.value } ≡ t = good_same v.rest in
      record {
        from_there = from.0 ∙ ap (λ (u : Transition). Ok u.from) same;
        weight_there = w.first ∙ ap (λ (u : Transition). Ok u.weight) same;
        action_there = k.first ∙ ap (λ (u : Transition). Ok u.action) same;
        to_there = to.0 ∙ ap (λ (u : Transition). Ok u.to) same;
        from_named = rw (← same) from.1.0;
        ordered = rw (← same) from.1.1;
        to_named = rw (← same) to.1;
      }

  -- the state past a good record is its width on
  pub labels_move : (p : ℕ) (st next : State) → one (labels s p) st ≡ Ok next → next.at ≡ st.at + label_width
  labels_move p st next e = ap (λ (u : State). u.at) (sym (good_same (bind_good _ _ e).rest))

  pub transitions_move : (n : ℕ) (st next : State) → one (transitions s n) st ≡ Ok next → next.at ≡ st.at + transition_width
  transitions_move n st next e = ap (λ (u : State). u.at) (sym (good_same (bind_good _ _ e).rest))

  -- and the state that a good transition leaves exists
  pub transitions_leave : (n : ℕ) (st next : State) → one (transitions s n) st ≡ Ok next → next.prev < n
  transitions_leave n st next e =
      let t = bind_good _ _ e in
      let same : t.value.from ≡ next.prev = ap (λ (u : State). u.prev) (good_same t.rest) in
      rw (← same) (transition_good n st t.value t.first).from_named

-- what a good header says of the bytes
pub record HeaderAt (s : List ℕ) (k : Counts) : Type 0 where
  pub opened : read_start s model_head ≡ Ok tt
  pub states_counted : CountAt s states_count k.states
  pub propositions_counted : CountAt s propositions_count k.propositions
  pub transitions_counted : CountAt s transitions_count k.transitions
  pub long : length s ≡ model_length k.states k.transitions

pub header_good : (s : List ℕ) (k : Counts) → read_header s ≡ Ok k → HeaderAt s k
unfolding read_header
header_good s k e =
    let opened = and_good _ _ e in
    let n = bind_good _ _ opened.1 in
    let p = bind_good _ _ n.rest in
    let t = bind_good _ _ p.rest in
    let long = demand_good _ _ _ t.rest in
    let same : record { states = n.value; propositions = p.value; transitions = t.value } ≡ k = good_same long.1 in
    subst (HeaderAt s) same
    (record {
      opened = opened.0;
      states_counted = count_good _ _ n.first;
      propositions_counted = count_good _ _ p.first;
      transitions_counted = count_good _ _ t.first;
      long = eqb-true _ _ long.0;
    })

-- what a good message says of its parts
pub record ModelAt (s : List ℕ) (M : Model) : Type 0 where
  pub header : read_header s ≡ Ok (counts_of M)
  pub labelled : length M.labels ≡ M.states
  pub labels_there : read_all (labels s M.propositions) M.states (start model_header) ≡ Ok M.labels
  pub transitions_there : read_all (transitions s M.states) (length M.transitions) (start (label_at M.states)) ≡ Ok M.transitions

pub model_good : {s : List ℕ} {M : Model} → read_model s ≡ Ok M → ModelAt s M
unfolding read_model
model_good {s} e =
    let k = bind_good _ _ e in
    let ls = bind_good _ _ k.rest in
    let ts = bind_good _ _ ls.rest in
    let t : k.value.transitions ≡ length ts.value = sym (all_length _ _ _ _ ts.first) in
    subst (ModelAt s) (good_same ts.rest) (record {
      header = k.first ∙ λ i. Ok (record { states = k.value.states; propositions = k.value.propositions; transitions = t i });
      labelled = all_length _ _ _ _ ls.first;
      labels_there = ls.first;
      transitions_there = all_there _ _ _ _ ts.first;
    })
