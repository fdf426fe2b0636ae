-- The reading of a model message s: its first fault in the paper's order, with the offset of the field at fault, or the model.
-- A state's `at` is a position in s, and `prev` the `from` before.
use Rattle.std.specs.Prelude.{ℕ, ◌+◌, ◌^◌, List, length, eqb}
use Rattle.refusal.specs.declared.Refusal.TheVariants.{Length, Form}
use Rattle.refusal.specs.Number.{nowhere}
use Rattle.wire.specs.Read.{Read, Ok, ◌>>=◌, ◌>>◌, demand, field, below, named, source}
use Rattle.wire.specs.Reader.{Reader, read_all}
use Rattle.wire.specs.Start.{read_start}
use Rattle.wire.specs.Counts.{read_count}
use Rattle.wire.specs.Begin.{start}
use Rattle.wire.specs.declared.State.{State}
use Rattle.model.specs.Model.{Model, Transition}
use Rattle.model.specs.declared.Counts.{Counts}
use Rattle.model.specs.Format.{model_header, model_head, states_count, propositions_count, transitions_count, label_width, weight_at, action_at, to_at, transition_width, label_at, model_length}

module _ (s : List ℕ) where
  -- a label (4): a bit at p or above is FORM
  unfoldable pub read_label : ℕ → State → Read ℕ
  read_label p st = below 4 s st.at (2 ^ p) (record { refusal = Form; offset = st.at })

  -- the labels, one behind another
  abbrev pub labels : ℕ → Reader State ℕ
  labels p = record {
    position = λ st. st.at;
    read = read_label p;
    next = λ st label. record { at = st.at + label_width; prev = st.prev; seen = st.seen };
  }

  -- a transition of a model with n states: from (2), weight (4), action (2), to (2)
  unfoldable pub read_transition : ℕ → State → Read Transition
  read_transition n st = do
    from ← source s st.at n st.prev
    weight ← field 4 s (st.at + weight_at)
    action ← field 2 s (st.at + action_at)
    to ← named 2 s (st.at + to_at) n
    Ok (record { from = from; weight = weight; action = action; to = to })

  -- the transitions, one behind another
  abbrev pub transitions : ℕ → Reader State Transition
  transitions n = record {
    position = λ st. st.at;
    read = read_transition n;
    next = λ st t. record { at = st.at + transition_width; prev = t.from; seen = st.seen };
  }

-- the header: its start, then states, propositions, transitions; then the message is exactly as long as they say
unfoldable pub read_header : List ℕ → Read Counts
read_header s = do
  read_start s model_head
  n ← read_count s states_count
  p ← read_count s propositions_count
  t ← read_count s transitions_count
  demand (eqb (length s) (model_length n t)) Length nowhere
  Ok (record { states = n; propositions = p; transitions = t })

-- a whole message: the header, the labels, the transitions
unfoldable pub read_model : List ℕ → Read Model
read_model s = do
  counts ← read_header s
  ls ← read_all (labels s counts.propositions) counts.states (start model_header)
  ts ← read_all (transitions s counts.states) counts.transitions (start (label_at counts.states))
  Ok (record { states = counts.states; propositions = counts.propositions; labels = ls; transitions = ts })
