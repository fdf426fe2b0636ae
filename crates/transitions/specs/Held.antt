-- What accepted messages hold, by position, for a builder that checks nothing again.
use Rattle.std.specs.Prelude.{◌≡◌, ℕ, suc, ◌+◌, ◌-◌, ◌^◌, ◌<◌, ◌≤◌, cond, List, [], ◌∷◌, map, length, ◌==◌, nat_eq, slice_index}
use Rattle.lists.specs.Lists.{◌∈◌}
use Rattle.lists.specs.Making.{keep}
use Rattle.lists.specs.Order.{RisingFrom}
use Rattle.wire.specs.Bytes.{number}
use Rattle.wire.specs.Layout.{Layout, items}
use Rattle.model.specs.Format.{model_header, label_width, weight_at, action_at, to_at, transition_width, transition_at, model_length}
use Rattle.model.specs.Model.{Model, Transition}
use Rattle.model.specs.WellFormed as model
use Rattle.syntax.specs.Format.{formula_header, formula_length}
use Rattle.syntax.specs.declared.Row.{Row}
use Rattle.syntax.specs.Layouts.{row_layout}
use Rattle.syntax.specs.WellFormed as formula

-- a transition and a label at a position
abbrev pub transition_layout : List ℕ → Layout Transition
transition_layout m = record {
  item = λ at. record { from = number 2 m at; weight = number 4 m (at + weight_at); action = number 2 m (at + action_at); to = number 2 m (at + to_at) };
  next = λ at. at + transition_width;
  Ok = λ at. at + transition_width ≤ length m;
}

abbrev pub label_layout : List ℕ → Layout ℕ
label_layout m = record { item = λ at. number 4 m at; next = λ at. at + label_width; Ok = λ at. at + label_width ≤ length m }

-- so many transitions of a model with n states, from one on
abbrev pub transitions_from : List ℕ → (n first many : ℕ) → List Transition
transitions_from m n first many = items (transition_layout m) many (transition_at n first)

-- the model that the bytes hold, with n states, p propositions and t transitions
unfoldable pub held_model : List ℕ → (n p t : ℕ) → Model
held_model m n p t = record {
  states = n;
  propositions = p;
  labels = items (label_layout m) n model_header;
  transitions = transitions_from m n 0 t;
}

-- the k rows that the bytes hold
unfoldable pub held_rows : List ℕ → ℕ → List Row
held_rows f k = items (row_layout f) k formula_header

-- the messages are accepted
pub record HoldsModel (m : List ℕ) (n p t : ℕ) : Type 0 where
  pub long : length m ≡ model_length n t
  pub well_formed : model.WellFormed (held_model m n p t)
  pub transitions_fit : t ≤ 65535

pub record HoldsRows (f : List ℕ) (k p : ℕ) : Type 0 where
  pub long : length f ≡ formula_length k
  pub well_formed : formula.WellFormed p (held_rows f k)
  pub rows_fit : k ≤ 64

-- a table of where each state's transitions start: they are those between its entry and the next
pub record Starts (m : List ℕ) (n t : ℕ) (table : List ℕ) : Type 0 where
  pub inside : (a : ℕ) → a ≤ n → slice_index table a ≤ t
  pub rising : (a : ℕ) → a < n → slice_index table a ≤ slice_index table (suc a)
  pub each : (a : ℕ) → a < n
      → keep (λ u. nat_eq u.from a) (transitions_from m n 0 t) ≡ transitions_from m n (slice_index table a) (slice_index table (suc a) - slice_index table a)

-- the transitions of state a are so many from one on
pub record Own (m : List ℕ) (n t a first many : ℕ) : Type 0 where
  pub state : a < n
  pub inside : first + many ≤ t
  pub are : keep (λ u. nat_eq u.from a) (transitions_from m n 0 t) ≡ transitions_from m n first many

-- these transitions can be read: a weight is any 4-byte number, and an action any 2-byte number, as those of any bytes are
pub record Reads (m : List ℕ) (n first many : ℕ) : Type 0 where
  pub long : transition_at n (first + many) ≤ length m
  pub weights_fit : {u : Transition} → u ∈ transitions_from m n first many → u.weight < 2 ^ 32
  pub actions_fit : {u : Transition} → u ∈ transitions_from m n first many → u.action < 2 ^ 16

-- transitions lead to some of n states
abbrev pub LeadTo : ℕ → List Transition → Type 0
LeadTo n us = (u : Transition) → u ∈ us → u.to < n

-- no `from` is below a, nor below the one before it
abbrev pub RiseFrom : ℕ → List Transition → Type 0
RiseFrom a us = RisingFrom a (map (λ u. u.from) us)

-- how many transitions at the front of the list leave state a
unfoldable pub leading : ℕ → List Transition → ℕ
leading a [] = 0
leading a (u ∷ us) = cond (u.from == a) (1 + leading a us) 0
